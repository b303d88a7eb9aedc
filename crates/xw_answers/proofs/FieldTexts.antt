-- A text that is not empty has a line in the answer to `texts`.
use Rattle.std.proofs.Common.{◌≡◌, ℕ, false, eqb, List, [], ◌∷◌, length, refl}
use Rattle.std.specs.Prelude.{decimal}
use Rattle.xw_grid.specs.declared.cell.LightName.{LightName}
use Rattle.xw_commands.specs.Names.{direction_name, clue_name}
use Rattle.xw_answers.specs.Text.{line_of}
use Rattle.xw_answers.specs.Escape.{escaped_text}
use Rattle.xw_answers.specs.Fields.{field_line, clue_line}

pub field_told : (name text : List ℕ) → eqb (length text) 0 ≡ false → line_of (name ∷ escaped_text text ∷ []) ≡ field_line name text
field_told name [] some = cc
field_told name (byte ∷ bytes) some = refl

pub clue_is_told : (name : LightName) (text : List ℕ) → eqb (length text) 0 ≡ false → line_of (clue_name ∷ decimal name.number ∷ direction_name name.direction ∷ escaped_text text ∷ []) ≡ clue_line name text
clue_is_told name [] some = cc
clue_is_told name (byte ∷ bytes) some = refl
