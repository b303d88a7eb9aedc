use Rattle.xw_text.proofs.FirstLineLemmas.{first_line_feed}
use Rattle.xw_text.proofs.lines.line_end.Goals as goal

pub returns-clause-index : goal.returns-clause-index
returns-clause-index c = first_line_feed c.args.bytes.now c.memchr.result c.memchr.ensures
