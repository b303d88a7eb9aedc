-- The words for the values of arguments.
use Rattle.std.specs.Prelude.{ℕ, Bool, true, false, List, [], ◌∷◌, map, codes, Option, Some, None}
use Rattle.xw_grid.specs.declared.cell.Direction.{Direction}
use Rattle.xw_grid.specs.declared.cell.Direction.TheVariants.{Across, Down}
use Rattle.xw_grid.specs.declared.cell.Side.{Side}
use Rattle.xw_grid.specs.declared.cell.Side.TheVariants.{Right, Below}
use Rattle.xw_grid.specs.declared.cell.Symmetry.{Symmetry}
use Rattle.xw_grid.specs.declared.cell.Symmetry.TheVariants as kinds
use Rattle.xw_commands.specs.declared.command.TextField.{TextField}
use Rattle.xw_commands.specs.declared.command.TextField.TheVariants.{Title, Author, Copyright, Notes}

abbrev pub direction_name : Direction → List ℕ
direction_name Across = codes "across"
direction_name Down = codes "down"

abbrev pub side_name : Side → List ℕ
side_name Right = codes "right"
side_name Below = codes "below"

abbrev pub symmetry_name : Symmetry → List ℕ
symmetry_name kinds.None = codes "none"
symmetry_name kinds.Half = codes "half"
symmetry_name kinds.Quarter = codes "quarter"
symmetry_name kinds.LeftRight = codes "leftright"
symmetry_name kinds.UpDown = codes "updown"

abbrev pub switch_name : Bool → List ℕ
switch_name true = codes "on"
switch_name false = codes "off"

abbrev pub field_name : TextField → List ℕ
field_name Title = codes "title"
field_name Author = codes "author"
field_name Copyright = codes "copyright"
field_name Notes = codes "notes"

-- the word for a clue where a text field may stand
abbrev pub clue_name : List ℕ
clue_name = codes "clue"

abbrev pub field_or_clue_name : Option TextField → List ℕ
field_or_clue_name (Some field) = field_name field
field_or_clue_name None = clue_name

-- ---- tables

-- each of these values with its name
abbrev pub by_name : {A : Type 0} → (A → List ℕ) → List A → List (List ℕ × A)
by_name name values = map (λ value. (name value, value)) values

abbrev pub directions : List (List ℕ × Direction)
directions = by_name direction_name (Across ∷ Down ∷ [])

abbrev pub sides : List (List ℕ × Side)
sides = by_name side_name (Right ∷ Below ∷ [])

abbrev pub symmetries : List (List ℕ × Symmetry)
symmetries = by_name symmetry_name (kinds.None ∷ kinds.Half ∷ kinds.Quarter ∷ kinds.LeftRight ∷ kinds.UpDown ∷ [])

abbrev pub switches : List (List ℕ × Bool)
switches = by_name switch_name (true ∷ false ∷ [])

-- the text fields, and None for a clue
abbrev pub text_fields : List (List ℕ × Option TextField)
text_fields = by_name field_or_clue_name (Some Title ∷ Some Author ∷ Some Copyright ∷ Some Notes ∷ None ∷ [])
