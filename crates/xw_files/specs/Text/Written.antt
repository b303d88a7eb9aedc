-- The text written for a puzzle, or why it is not written.
use Rattle.std.specs.Prelude.{◌≡◌, ◌≢◌, ℕ, zero, suc, ◌+◌, ◌-◌, Bool, false, not, ◌&&◌, ◌||◌, ◌==◌, List, [], ◌∷◌, ◌++◌, length, map, take, drop, Option, Some, None, Result, Ok, Err, if◌then◌else◌, position, slice_get, flat_map, find, decimal}
use Rattle.std.specs.List.{list_all, list_any, slice_split}
use Rattle.xw_text.specs.Lines.{is_line_feed}
use Rattle.xw_grid.specs.declared.cell.Cell.{Cell}
use Rattle.xw_grid.specs.declared.cell.Square.{Square}
use Rattle.xw_grid.specs.declared.cell.Direction.{Direction}
use Rattle.xw_grid.specs.declared.cell.Direction.TheVariants as directions
use Rattle.xw_grid.specs.declared.cell.Direction.TheVariants.{Across, Down}
use Rattle.xw_grid.specs.declared.lights.Light.{Light}
use Rattle.xw_grid.specs.Grid.{Grid, cells}
use Rattle.xw_grid.specs.Light.{begins, lights_of, same_direction}
use Rattle.xw_grid.specs.Clue.{ClueMap, clue_at}
use Rattle.xw_files.specs.declared.fault.Tag.{Tag}
use Rattle.xw_files.specs.declared.fault.Tag.TheVariants as tags
use Rattle.xw_files.specs.declared.fault.TextName.{TextName}
use Rattle.xw_files.specs.declared.fault.TextName.TheVariants as fields
use Rattle.xw_files.specs.declared.fault.WriteFault.{WriteFault}
use Rattle.xw_files.specs.declared.fault.WriteFault.TheVariants as faults
use Rattle.xw_files.specs.Text.Lines.{is_blank}
use Rattle.xw_files.specs.Text.Tag.{header, name_of, is_tag_line}
use Rattle.xw_grid.specs.Puzzle.{PuzzleShown, TextsShown}
use Rattle.xw_files.specs.Part.{is_circled_open}
use Rattle.xw_files.specs.Finished.{has_bar, empty_cell, square_byte}
use Rattle.xw_files.specs.Text.Starts.{starts}

-- ---- which texts can be written

abbrev pub is_line_end : ℕ → Bool
is_line_end byte = ((byte == 0) || (byte == 10)) || (byte == 13)

abbrev pub is_blank_at : Option ℕ → Bool
is_blank_at None = false
is_blank_at (Some byte) = is_blank byte

-- the text can be written on one line
unfoldable pub is_spelled : List ℕ → Bool
is_spelled text = not (list_any is_line_end text) && not (is_blank_at (slice_get text 0)) && not (is_blank_at (slice_get text (length text - 1))) && not (is_tag_line text)

unfoldable pub is_clue : List ℕ → Bool
is_clue text = not (length text == 0) && is_spelled text

abbrev pub pieces : List ℕ → List (List ℕ)
pieces notes = slice_split is_line_feed notes

unfoldable pub are_notes : List ℕ → Bool
are_notes notes = (length notes == 0) || list_all is_clue (pieces notes)

-- ---- faults

abbrev pub is_bad_clue : Direction → ClueMap → Light → Bool
is_bad_clue direction clues light = same_direction light.name.direction direction && not (is_clue (clue_at clues light.start direction))

-- the index of the first light of a direction whose clue cannot be written
abbrev pub bad_clue : Direction → ClueMap → List Light → Option ℕ
bad_clue direction clues lights = position (is_bad_clue direction clues) lights

-- the number of lights that begin at a cell and come before the one of this direction
abbrev pub index_at : Grid → Direction → Cell → ℕ
index_at grid Across cell = 0
index_at grid Down cell = if begins grid Across cell then 1 else 0

abbrev pub named_clue : Option ℕ → Option TextName → Option TextName
named_clue (Some index) other = Some (fields.Clue (index + 1))
named_clue None other = other

-- the first text that cannot be written
unfoldable pub bad_field : PuzzleShown → Option TextName
bad_field puzzle =
    if not (is_spelled puzzle.texts.title) then Some fields.Title
    else if not (is_spelled puzzle.texts.author) then Some fields.Author
    else if not (is_spelled puzzle.texts.copyright) then Some fields.Copyright
    else named_clue (bad_clue directions.Across puzzle.clues (lights_of puzzle.grid)) (named_clue (bad_clue directions.Down puzzle.clues (lights_of puzzle.grid))
    (if are_notes puzzle.texts.notes then None else Some fields.Notes))

-- ---- the text

-- a text as a line, which is indented by a tab
abbrev pub line : List ℕ → List ℕ
line text = 9 ∷ text ++ 10 ∷ []

-- a tag as a line, which is not indented
abbrev pub tag_line : List ℕ → List ℕ
tag_line name = name ++ 10 ∷ []

abbrev pub tag : Tag → List ℕ
tag which = tag_line (name_of which)

-- the squares of each row as text
unfoldable pub row_texts : ℕ → ℕ → List Square → List (List ℕ)
row_texts width zero squares = []
row_texts width (suc count) squares = map square_byte (take width squares) ∷ row_texts width count (drop width squares)

abbrev pub clue_texts : Direction → ClueMap → Grid → List (List ℕ)
clue_texts direction clues grid = map (λ start. clue_at clues start direction) (starts grid direction)

abbrev pub size_text : Grid → List ℕ
size_text grid = decimal grid.width ++ 120 ∷ decimal grid.height

abbrev pub grid_text : Grid → List ℕ
grid_text grid = tag tags.Size ++ line (size_text grid) ++ tag tags.Grid ++ flat_map line (row_texts grid.width grid.height grid.squares)

abbrev pub texts_text : TextsShown → List ℕ
texts_text texts = tag tags.Title ++ line texts.title ++ tag tags.Author ++ line texts.author ++ tag tags.Copyright ++ line texts.copyright

-- the clues of a direction under their tag
unfoldable pub direction_text : Tag → Direction → ClueMap → Grid → List ℕ
direction_text which direction clues grid = tag which ++ flat_map line (clue_texts direction clues grid)

abbrev pub clues_text : ClueMap → Grid → List ℕ
clues_text clues grid = direction_text tags.Across directions.Across clues grid ++ direction_text tags.Down directions.Down clues grid

unfoldable pub notes_text : List ℕ → List ℕ
notes_text [] = []
notes_text (byte ∷ notes) = tag tags.Notepad ++ flat_map line (pieces (byte ∷ notes))

unfoldable pub texted : PuzzleShown → List ℕ
texted puzzle = tag_line header ++ texts_text puzzle.texts ++ grid_text puzzle.grid ++ clues_text puzzle.clues puzzle.grid ++ notes_text puzzle.texts.notes

-- ---- the faults in order, and otherwise the text

abbrev pub unless_circled : Option Cell → List ℕ → Result (List ℕ) WriteFault
unless_circled (Some cell) text = Err (faults.Circled cell)
unless_circled None text = Ok text

abbrev pub unless_field : Option TextName → Result (List ℕ) WriteFault → Result (List ℕ) WriteFault
unless_field (Some field) rest = Err (faults.Field field)
unless_field None rest = rest

abbrev pub unless_empty : Option Cell → Result (List ℕ) WriteFault → Result (List ℕ) WriteFault
unless_empty (Some cell) rest = Err (faults.NotFilled cell)
unless_empty None rest = rest

unfoldable pub written : PuzzleShown → Result (List ℕ) WriteFault
written puzzle =
    if has_bar puzzle.grid then Err faults.Barred
    else unless_empty (empty_cell puzzle.grid)
    (unless_field (bad_field puzzle) (unless_circled (find (is_circled_open puzzle.grid puzzle.circles) (cells puzzle.grid)) (texted puzzle)))

-- The code's result, seen through view, equals the specified result, unless it is Memory.
abbrev pub Writes : {X : Type 0} → (X → List ℕ) → Result X WriteFault → Result (List ℕ) WriteFault → Type 0
Writes view (Ok x) answer = answer ≡ Ok (view x)
Writes view (Err e) answer = e ≢ faults.Memory → answer ≡ Err e
