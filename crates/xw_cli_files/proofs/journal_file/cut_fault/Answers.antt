use Rattle.std.proofs.Common.{◌≡◌, ◌∙◌, ◌+◌, ap, arith, length, subst, codes}
use Rattle.std.specs.Prelude.{count_by}
use Rattle.std.proofs.lemmas.List.Sums.{count_by-le-length}
use Rattle.memchr.proofs.lemmas.CallerLemmas.{length-places}
use Rattle.xw_text.specs.Lines.{is_line_feed}
use Rattle.xw_desk.specs.Files.{IsLineFault}
use Rattle.xw_cli_files.proofs.journal_file.cut_fault.Goals as goal

pub returns : goal.returns
returns c =
    let bytes = c.args.bytes.now in
    let ended : c.count-ended.result ≡ count_by is_line_feed bytes = c.count-ended.ensures ∙ (ap length c.memchr_iter.ensures.value ∙ length-places is_line_feed bytes) in
    let number : c.saturating_add.result ≡ count_by is_line_feed bytes + 1 = omega (arith, ended, count_by-le-length is_line_feed bytes, c.saturating_add.ensures) in
    subst (λ n. IsLineFault c.args.file.now n (codes "Cut") c.line_fault.result) number c.line_fault.ensures
