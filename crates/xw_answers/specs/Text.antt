-- The lines of answers.
use Rattle.std.specs.Prelude.{ℕ, ◌+◌, ◌/◌, ◌%◌, List, [], ◌∷◌, ◌++◌, map, ◌&&◌, flat_map, codes, decimal, slice_get, Option, Some, None, if◌then◌else◌}
use Rattle.std.specs.Option.{option_and_then}
use Rattle.xw_grid.specs.declared.cell.Cell.{Cell}
use Rattle.xw_grid.specs.declared.fault.GridFault.{GridFault}
use Rattle.xw_grid.specs.declared.fault.GridFault.TheVariants as grids
use Rattle.xw_grid.specs.declared.lights.Light.{Light}
use Rattle.xw_grid.specs.Grid.{Grid, entry, is_open, cells}
use Rattle.xw_grid.specs.Clue.{is_circled}
use Rattle.xw_grid.specs.Light.{cells_of, lights_of, index_named}
use Rattle.xw_grid.specs.declared.cell.LightName.{LightName}
use Rattle.xw_words.specs.declared.fault.WordFault.{WordFault}
use Rattle.xw_words.specs.declared.fault.WordFault.TheVariants as words
use Rattle.xw_commands.specs.Names.{direction_name}
use Rattle.xw_commands.specs.declared.command.SyntaxFault.{SyntaxFault}
use Rattle.xw_commands.specs.declared.command.SyntaxFault.TheVariants as syntax
use Rattle.xw_feas.specs.Board.{Board, entry as board_entry}
use Rattle.xw_feas.specs.declared.edit.Refusal.{Refusal}
use Rattle.xw_feas.specs.declared.edit.Refusal.TheVariants as edits
use Rattle.xw_answers.specs.declared.refusal.CommandRefusal.{CommandRefusal}
use Rattle.xw_answers.specs.declared.refusal.CommandRefusal.TheVariants as refusals

-- words with a space between them, and an LF at the end
abbrev pub line_of : List (List ℕ) → List ℕ
line_of [] = codes "\n"
line_of (word ∷ []) = word ++ codes "\n"
line_of (word ∷ next ∷ words) = (word ++ codes " ") ++ line_of (next ∷ words)

abbrev pub accepted : List ℕ
accepted = line_of (codes "ok" ∷ [])

-- a word on a line
abbrev pub word_line : List ℕ → List ℕ
word_line word = line_of (word ∷ [])

-- a name with a number
abbrev pub number_line : List ℕ → ℕ → List ℕ
number_line name number = line_of (name ∷ decimal number ∷ [])

-- hundredths as a number with two decimals
abbrev pub two_decimals : ℕ → List ℕ
two_decimals hundredths = decimal (hundredths / 100) ++ (46 ∷ (48 + hundredths / 10 % 10) ∷ (48 + hundredths % 10) ∷ [])

-- ---- refusals

abbrev pub word_fault : WordFault → List ℕ
word_fault (words.BadLetter position) = codes "BadLetter"
word_fault words.Length = codes "Length"
word_fault words.Known = codes "Known"
word_fault words.Full = codes "Full"
word_fault words.Unknown = codes "Unknown"
word_fault words.Memory = codes "Memory"

abbrev pub grid_fault : GridFault → List ℕ
grid_fault grids.Size = codes "Size"
grid_fault grids.OutOfGrid = codes "OutOfGrid"
grid_fault grids.OnBlock = codes "OnBlock"
grid_fault grids.Occupied = codes "Occupied"
grid_fault grids.NotSquare = codes "NotSquare"
grid_fault grids.Border = codes "Border"
grid_fault grids.Memory = codes "Memory"

abbrev pub syntax_fault : SyntaxFault → List ℕ
syntax_fault syntax.LineTooLong = codes "LineTooLong"
syntax_fault syntax.Command = codes "Command"
syntax_fault syntax.Arguments = codes "Arguments"

-- the name of a refusal of the engine, without the location of the fault
abbrev pub engine_refusal : Refusal → List ℕ
engine_refusal (edits.Word fault) = word_fault fault
engine_refusal (edits.Grid fault) = grid_fault fault
engine_refusal edits.NoLight = codes "NoLight"
engine_refusal edits.PlaceLength = codes "PlaceLength"

-- the name of the refusal of a command
abbrev pub name_of : CommandRefusal → List ℕ
name_of (refusals.Syntax fault) = syntax_fault fault
name_of (refusals.Engine refusal) = engine_refusal refusal
name_of refusals.NulByte = codes "NulByte"
name_of refusals.Escape = codes "Escape"
name_of refusals.Alive = codes "Alive"

abbrev pub refused : CommandRefusal → List ℕ
refused refusal = line_of (codes "no" ∷ name_of refusal ∷ [])

-- ---- lights and cells

-- the letters, or a dash if there are none
abbrev pub letters_or_dash : List ℕ → List ℕ
letters_or_dash [] = codes "-"
letters_or_dash (letter ∷ letters) = letter ∷ letters

-- the feasible letters of a cell
abbrev pub letters_line : List ℕ → List ℕ
letters_line letters = line_of (letters_or_dash letters ∷ [])

-- a cell with its new feasible letters
abbrev pub change_line : Cell × List ℕ → List ℕ
change_line change = line_of (codes "cell" ∷ decimal change.0.row ∷ decimal change.0.col ∷ letters_or_dash change.1 ∷ [])

-- a cell with its entry; nothing for a cell without one
abbrev pub entry_line : Cell → Option ℕ → List ℕ
entry_line cell None = []
entry_line cell (Some letter) = line_of (codes "cell" ∷ decimal cell.row ∷ decimal cell.col ∷ (letter ∷ []) ∷ [])

-- the number of words, and then the words
abbrev pub counted_lines : ℕ → List (List ℕ) → List ℕ
counted_lines count found = line_of (decimal count ∷ []) ++ flat_map word_line found

-- the letter, or a dot if there is none
abbrev pub letter_or_dot : Option ℕ → ℕ
letter_or_dot None = 46
letter_or_dot (Some letter) = letter

-- the letters of a light, with a dot for each empty cell
abbrev pub pattern : Grid → Light → List ℕ
pattern grid light = map (λ cell. letter_or_dot (entry grid cell)) (cells_of light)

-- the same for cells of a board
abbrev pub letters_at : Board → List ℕ → List ℕ
letters_at board cells = map (λ cell. letter_or_dot (board_entry board cell)) cells

-- a light's name, its start cell and letters
abbrev pub light_words : Light → List ℕ → List ℕ
light_words light letters = line_of (decimal light.name.number ∷ direction_name light.name.direction ∷ decimal light.start.row ∷ decimal light.start.col ∷ letters ∷ [])

abbrev pub light_line : Grid → Light → List ℕ
light_line grid light = light_words light (pattern grid light)

-- the light with this name
abbrev pub light_of : Grid → LightName → Option Light
light_of grid name = option_and_then (slice_get (lights_of grid)) (index_named (lights_of grid) name)

-- the letters of a light, or none if there is no light
abbrev pub pattern_of : Grid → Option Light → List ℕ
pattern_of grid None = []
pattern_of grid (Some light) = pattern grid light

-- a light, the first earlier light that spells the same, and the word
abbrev pub repeat_line : Grid → LightName → LightName → List ℕ
repeat_line grid name first = line_of (decimal name.number ∷ direction_name name.direction ∷ decimal first.number ∷ direction_name first.direction ∷ pattern_of grid (light_of grid name) ∷ [])

-- a light and its word
abbrev pub spelled_line : Grid → LightName → List ℕ
spelled_line grid name = line_of (decimal name.number ∷ direction_name name.direction ∷ pattern_of grid (light_of grid name) ∷ [])

-- a light's name with a number
abbrev pub numbered_line : LightName → ℕ → List ℕ
numbered_line name count = line_of (decimal name.number ∷ direction_name name.direction ∷ decimal count ∷ [])

-- a number, or a dash if there is none
abbrev pub number_or_dash : Option ℕ → List ℕ
number_or_dash None = codes "-"
number_or_dash (Some number) = decimal number

-- a light's name with the grade of its word, or a dash
abbrev pub grade_line : LightName → Option ℕ → List ℕ
grade_line name grade = line_of (decimal name.number ∷ direction_name name.direction ∷ number_or_dash grade ∷ [])

-- all lights of a grid
abbrev pub light_lines : Grid → List ℕ
light_lines grid = flat_map (light_line grid) (lights_of grid)

-- the row and column of a cell
abbrev pub cell_line : Cell → List ℕ
cell_line cell = line_of (decimal cell.row ∷ decimal cell.col ∷ [])

-- the line of an open circled cell, and nothing for any other cell
abbrev pub circle_line : Grid → List Cell → Cell → List ℕ
circle_line grid circles cell = if is_open grid cell && is_circled circles cell then cell_line cell else []

-- the open circled cells, in reading order
abbrev pub circle_lines : Grid → List Cell → List ℕ
circle_lines grid circles = flat_map (circle_line grid circles) (cells grid)
