use Rattle.std.proofs.Common.{◌≡◌, ◌∙◌, ◌++◌, ap, append_assoc, ℕ, List}
use Rattle.std.specs.Prelude.{codes, decimal}
use Rattle.xw_answers.specs.Text.{word_line}
use Rattle.xw_session.proofs.resuming.report.Goals as goal

pub returns : goal.returns
returns c =
    let told : List ℕ → List ℕ = λ name. codes "xw: " ++ c.args.file.now ++ codes ": line " ++ decimal c.args.number ++ codes ": " ++ word_line name in
    let line : c.in_ok-format.field-0.bytes.items ≡ told c.name-name.result.now = c.in_ok-format.ensures.ok ∙ simp append_assoc in
    line ∙ ap told c.name-name.ensures
