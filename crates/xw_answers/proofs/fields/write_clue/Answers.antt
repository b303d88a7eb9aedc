use Rattle.std.proofs.Common.{◌≡◌, ◌∙◌, sym, false, eqb, length}
use Rattle.xw_answers.proofs.FieldTexts.{clue_is_told}
use Rattle.xw_answers.proofs.fields.write_clue.Goals as goal

pub returns : goal.returns
returns g c =
    let some : eqb (length c.args.text.now) 0 ≡ false = sym c.is_empty.ensures ∙ c.if-is_empty.false in
    rw (← clue_is_told c.args.light c.args.text.now some, ← c.name.ensures, ← c.from.ensures) c.write_line.ensures
