use Rattle.std.proofs.Common.{◌∙◌, ap, length, nat_lt}
use Rattle.memchr.proofs.lemmas.CallerLemmas.{length-places}
use Rattle.xw_text.specs.Lines.{is_line_feed}
use Rattle.xw_cli_files.proofs.word_list.is_long.Goals as goal

pub returns : goal.returns
returns c = ap (nat_lt 1000000) (c.count.ensures ∙ (ap length c.memchr_iter.ensures.value ∙ length-places is_line_feed c.args.bytes.now))
