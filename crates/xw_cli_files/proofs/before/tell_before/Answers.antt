use Rattle.std.proofs.Common.{◌≡◌, ◌∙◌, ◌++◌, ap, List, ℕ, append_assoc}
use Rattle.std.specs.Prelude.{codes}
use Rattle.xw_desk.proofs.Writing.{reports_as}
use Rattle.xw_cli_files.specs.Keeping.{before_line}
use Rattle.xw_cli_files.proofs.before.tell_before.Goals as goal

pub returns-clause-told : goal.returns-clause-told
returns-clause-told g c =
    let middle = codes ": the session before the last line is kept as " in
    let flat : c.as_bytes.result.now ≡ codes "xw: " ++ c.args.file.now ++ middle ++ c.in_ok-name.name.bytes.items ++ codes "\n" = c.as_bytes.ensures.value ∙ (c.in_ok-text.ensures.ok ∙ simp append_assoc) in
    let named : c.as_bytes.result.now ≡ before_line c.args.file.now c.args.number =
    flat ∙ ap (λ (name : List ℕ). codes "xw: " ++ c.args.file.now ++ middle ++ name ++ codes "\n") c.in_ok-name.ensures in
    reports_as _ _ _ _ named c.report.ensures
