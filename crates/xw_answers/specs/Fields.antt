-- What the command `texts` reports of each text and each clue.
use Rattle.std.specs.Prelude.{ℕ, List, [], ◌∷◌, ◌++◌, flat_map, decimal}
use Rattle.xw_grid.specs.declared.cell.LightName.{LightName}
use Rattle.xw_grid.specs.declared.lights.Light.{Light}
use Rattle.xw_grid.specs.Grid.{Grid}
use Rattle.xw_grid.specs.Light.{lights_of}
use Rattle.xw_grid.specs.Clue.{ClueMap}
use Rattle.xw_grid.specs.Puzzle.{TextsShown, clue_of}
use Rattle.xw_commands.specs.declared.command.TextField.TheVariants.{Title, Author, Copyright, Notes}
use Rattle.xw_commands.specs.Names.{direction_name, field_name, clue_name}
use Rattle.xw_answers.specs.Text.{line_of}
use Rattle.xw_answers.specs.Escape.{escaped_text}

-- the name of a text and the text; nothing if it is empty
abbrev pub field_line : List ℕ → List ℕ → List ℕ
field_line name [] = []
field_line name (byte ∷ bytes) = line_of (name ∷ escaped_text (byte ∷ bytes) ∷ [])

abbrev pub clue_line : LightName → List ℕ → List ℕ
clue_line name [] = []
clue_line name (byte ∷ bytes) = line_of (clue_name ∷ decimal name.number ∷ direction_name name.direction ∷ escaped_text (byte ∷ bytes) ∷ [])

-- the four texts
abbrev pub title_and_author : TextsShown → List ℕ
title_and_author texts = field_line (field_name Title) texts.title ++ field_line (field_name Author) texts.author

abbrev pub copyright_and_notes : TextsShown → List ℕ
copyright_and_notes texts = field_line (field_name Copyright) texts.copyright ++ field_line (field_name Notes) texts.notes

abbrev pub field_lines : TextsShown → List ℕ
field_lines texts = title_and_author texts ++ copyright_and_notes texts

-- the clue of a light; nothing if it is empty
abbrev pub clue_told : ClueMap → Light → List ℕ
clue_told clues light = clue_line light.name (clue_of clues light)

abbrev pub clue_lines : ClueMap → Grid → List ℕ
clue_lines clues grid = flat_map (clue_told clues) (lights_of grid)
