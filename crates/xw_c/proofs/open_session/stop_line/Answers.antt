use Rattle.std.proofs.Common.{◌≡◌, ◌∙◌, ◌++◌, ap, append_assoc, refl, ℕ, List}
use Rattle.std.specs.Prelude.{codes, decimal}
use Rattle.xw_answers.specs.Text.{name_of, word_line}
use Rattle.xw_session.specs.Resuming.{refused_line}
use Rattle.xw_c.specs.OpenSession.{record_name}
use Rattle.xw_c.proofs.open_session.stop_line.Goals as goal

pub returns : goal.returns
returns c =
    let told : List ℕ → List ℕ = λ name. codes "xw: " ++ record_name ++ codes ": line " ++ decimal c.args.number ++ codes ": " ++ word_line name in
    let line : c.in_ok-format.field-0.bytes.items ≡ told c.name-name.result.now = c.in_ok-format.ensures.ok ∙ simp append_assoc in
    let named : told c.name-name.result.now ≡ told (name_of c.args.refusal) = ap told c.name-name.ensures in
    let same : told (name_of c.args.refusal) ≡ refused_line record_name c.args.number c.args.refusal = refl in
    line ∙ named ∙ same
