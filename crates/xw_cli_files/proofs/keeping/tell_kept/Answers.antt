use Rattle.std.proofs.Common.{◌≡◌, ◌∙◌, ◌++◌, ap, List, ℕ, append_assoc}
use Rattle.std.specs.Prelude.{codes}
use Rattle.xw_desk.proofs.Writing.{reports_as}
use Rattle.xw_disk.specs.Kept.{kept_name}
use Rattle.xw_cli_files.specs.Keeping.{old_line}
use Rattle.xw_cli_files.proofs.keeping.tell_kept.Goals as goal

pub returns-clause-told : goal.returns-clause-told
returns-clause-told g c =
    let flat : c.as_bytes.result.now ≡ codes "xw: " ++ c.args.file.now ++ c.kept_because-said.result.now ++ c.in_ok-name.name.bytes.items ++ codes "\n" = c.as_bytes.ensures.value ∙ (c.in_ok-text.ensures.ok ∙ simp append_assoc) in
    let named : c.as_bytes.result.now ≡ old_line c.args.is_refused c.args.file.now c.args.number =
    flat ∙ (ap (λ (name : List ℕ). codes "xw: " ++ c.args.file.now ++ c.kept_because-said.result.now ++ name ++ codes "\n") c.in_ok-name.ensures
    ∙ ap (λ (said : List ℕ). codes "xw: " ++ c.args.file.now ++ said ++ kept_name c.args.file.now c.args.number ++ codes "\n") c.kept_because-said.ensures) in
    reports_as _ _ _ _ named c.report.ensures
