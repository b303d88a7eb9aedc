use Rattle.std.proofs.Common.{◌≡◌, ◌∙◌, ◌++◌, append_assoc}
use Rattle.xw_desk.proofs.Writing.{reports_as}
use Rattle.xw_cli_files.specs.WordLists.{counts_line}
use Rattle.xw_cli_files.proofs.word_list.tell_loaded.Goals as goal

pub returns-clause-told : goal.returns-clause-told
returns-clause-told g c =
    let line : c.as_bytes.result.now ≡ counts_line c.args.file.now c.args.loaded.added c.args.loaded.skipped ++ c.args.notes.now = c.as_bytes.ensures.value ∙ (c.in_ok-text.ensures.ok ∙ simp append_assoc) in
    reports_as _ _ _ _ line c.report.ensures
