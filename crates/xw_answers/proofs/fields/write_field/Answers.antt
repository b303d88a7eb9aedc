use Rattle.std.proofs.Common.{◌≡◌, ◌∙◌, sym, false, eqb, length}
use Rattle.xw_commands.specs.Names.{field_name}
use Rattle.xw_answers.proofs.FieldTexts.{field_told}
use Rattle.xw_answers.proofs.fields.write_field.Goals as goal

pub returns : goal.returns
returns g c =
    let some : eqb (length c.args.text.now) 0 ≡ false = sym c.is_empty.ensures ∙ c.if-is_empty.false in
    rw (← field_told (field_name c.args.field) c.args.text.now some, ← c.name.ensures) c.write_line.ensures
