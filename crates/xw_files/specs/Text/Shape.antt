-- Reading a text file as functions on lines: each returns what it reads and the lines after it, or the first fault.
use Rattle.std.specs.Prelude.{ℕ, zero, suc, ◌+◌, ◌≤◌, Bool, not, ◌&&◌, ◌||◌, ◌==◌, nat_le, List, [], ◌∷◌, ◌++◌, length, take, drop, map, Option, Some, None, Result, Ok, Err, if◌then◌else◌, position}
use Rattle.std.specs.List.{list_all, join_with_byte, prefix_len}
use Rattle.std.specs.Char.{is_ascii_digit}
use Rattle.std.specs.Str.Parse.{digits_value}
use Rattle.xw_letters.specs.Letter.{is_letter, folded}
use Rattle.xw_grid.specs.declared.cell.Cell.{Cell}
use Rattle.xw_grid.specs.declared.cell.Square.{Square}
use Rattle.xw_grid.specs.declared.cell.Square.TheVariants.{Block, Open}
use Rattle.xw_grid.specs.declared.cell.Direction.{Direction}
use Rattle.xw_grid.specs.declared.cell.Direction.TheVariants as directions
use Rattle.xw_grid.specs.Grid.{Grid}
use Rattle.xw_grid.specs.Clue.{ClueMap, no_clues, with_clue}
use Rattle.xw_files.specs.declared.fault.Tag.{Tag}
use Rattle.xw_files.specs.declared.fault.Tag.TheVariants as tags
use Rattle.xw_files.specs.declared.fault.ReadFault.{ReadFault}
use Rattle.xw_files.specs.declared.fault.ReadFault.TheVariants as faults
use Rattle.xw_files.specs.Text.Lines.{trimmed, text_lines}
use Rattle.xw_files.specs.Text.Tag.{header, name_of, names, is_tag_line}
use Rattle.xw_grid.specs.Puzzle.{TextsShown, PuzzleShown}
use Rattle.xw_files.specs.Steps.{◌>>=◌}
use Rattle.xw_files.specs.Text.Starts.{starts}
use Rattle.xw_grid.specs.Edit.{grid_of}

abbrev pub Lines : Type 0
Lines = List (List ℕ)

-- ---- tags, and lines under them

unfoldable pub header_at : Lines → Result Lines ReadFault
header_at [] = Err faults.Header
header_at (line ∷ rest) = if names line header then Ok rest else Err faults.Header

unfoldable pub tag_at : Tag → Lines → Result Lines ReadFault
tag_at tag [] = Err (faults.Tag tag)
tag_at tag (line ∷ rest) = if names line (name_of tag) then Ok rest else Err (faults.Tag tag)

-- the next line if it is not a tag line, and the lines after it
abbrev pub plain_at : Lines → Option (List ℕ) × Lines
plain_at [] = (None, [])
plain_at (line ∷ rest) = if is_tag_line line then (None, line ∷ rest) else (Some line, rest)

abbrev text_of : Option (List ℕ) → List ℕ
text_of None = []
text_of (Some line) = line

-- the next line as a text, which is empty if no line is left or the next one is a tag line
unfoldable pub text_at : Lines → Result (List ℕ × Lines) ReadFault
text_at lines = Ok (text_of (plain_at lines).0, (plain_at lines).1)

unfoldable pub texts_at : Lines → Result (TextsShown × Lines) ReadFault
texts_at lines = do
  a ← tag_at tags.Title lines
  title ← text_at a
  b ← tag_at tags.Author title.1
  author ← text_at b
  c ← tag_at tags.Copyright author.1
  copyright ← text_at c
  Ok (record { title = title.0; author = author.0; copyright = copyright.0; notes = [] }, copyright.1)

-- ---- the size

-- 1 to 3 digits
abbrev pub is_numeral : List ℕ → Bool
is_numeral digits = (nat_le 1 (length digits) && nat_le (length digits) 3) && list_all is_ascii_digit digits

abbrev pub is_side : ℕ → Bool
is_side number = nat_le 1 number && nat_le number 255

-- the value of 1 to 3 digits, if it is 1 to 255
abbrev pub side_of : List ℕ → Option ℕ
side_of digits = if is_numeral digits && is_side (digits_value 10 digits) then Some (digits_value 10 digits) else None

abbrev pub AreSides : ℕ × ℕ → Type 0
AreSides sides = ((1 ≤ sides.0) × (sides.0 ≤ 255)) × ((1 ≤ sides.1) × (sides.1 ≤ 255))

abbrev pub is_times : ℕ → Bool
is_times byte = (byte == 120) || (byte == 88)

abbrev pub both : Option ℕ → Option ℕ → Option (ℕ × ℕ)
both None height = None
both (Some width) None = None
both (Some width) (Some height) = Some (width, height)

abbrev pub sides_around : List ℕ → Option ℕ → Option (ℕ × ℕ)
sides_around line None = None
sides_around line (Some times) = both (side_of (trimmed (take times line))) (side_of (trimmed (drop (times + 1) line)))

-- the two numbers around the first `x`, with blanks allowed beside it
unfoldable pub sides_of : List ℕ → Option (ℕ × ℕ)
sides_of line = sides_around line (position is_times line)

abbrev pub sized : Option (ℕ × ℕ) → Lines → Result ((ℕ × ℕ) × Lines) ReadFault
sized None rest = Err faults.SizeLine
sized (Some sides) rest = Ok (sides, rest)

abbrev pub sides_at : Option (List ℕ) → Lines → Result ((ℕ × ℕ) × Lines) ReadFault
sides_at None rest = Err faults.SizeLine
sides_at (Some line) rest = sized (sides_of line) rest

unfoldable pub size_at : Lines → Result ((ℕ × ℕ) × Lines) ReadFault
size_at lines = sides_at (plain_at lines).0 (plain_at lines).1

-- ---- rows

abbrev pub is_bad_square : ℕ → Bool
is_bad_square byte = not ((is_letter byte || (byte == 46)) || (byte == 45))

-- `.` is a block, `-` an empty cell, a letter of either case its upper-case letter
abbrev pub square_of : ℕ → Square
square_of byte = if byte == 46 then Block else if byte == 45 then Open None else Open (Some (folded byte))

abbrev pub squares_in : ℕ → Option ℕ → List ℕ → Result (List Square) ReadFault
squares_in row None line = Ok (map square_of line)
squares_in row (Some index) line = Err (faults.BadCell (record { row = row; col = index + 1 }))

-- the squares of a line, or BadCell for the first byte that is not a square
abbrev pub row_squares : ℕ → List ℕ → Result (List Square) ReadFault
row_squares row line = squares_in row (position is_bad_square line) line

-- the squares read, appended to those before them
abbrev pub squares_after : List Square → Result (List Square) ReadFault → Result (List Square) ReadFault
squares_after front read = read >>= λ own. Ok (front ++ own)

abbrev pub cells_at : ℕ → ℕ → Option (List ℕ) → Lines → Result (List Square × Lines) ReadFault
cells_at width row None rest = Err (faults.GridLine row)
cells_at width row (Some line) rest = if length line == width then (row_squares row line >>= λ squares. Ok (squares, rest)) else Err (faults.GridLine row)

unfoldable pub row_at : ℕ → ℕ → Lines → Result (List Square × Lines) ReadFault
row_at width row lines = cells_at width row (plain_at lines).0 (plain_at lines).1

-- the list read, appended to the one before it
abbrev pub with_front : {A : Type 0} → List A → Result (List A × Lines) ReadFault → Result (List A × Lines) ReadFault
with_front front read = read >>= λ x. Ok (front ++ x.0, x.1)

-- `count` rows, the first of them row `row`
unfoldable pub rows_at : ℕ → ℕ → ℕ → Lines → Result (List Square × Lines) ReadFault
rows_at width row zero lines = Ok ([], lines)
rows_at width row (suc count) lines = do
  first ← row_at width row lines
  others ← rows_at width (row + 1) count first.1
  Ok (first.0 ++ others.0, others.1)

unfoldable pub grid_at : Lines → Result (Grid × Lines) ReadFault
grid_at lines = do
  a ← tag_at tags.Size lines
  size ← size_at a
  b ← tag_at tags.Grid size.1
  rows ← rows_at size.0.0 1 size.0.1 b
  Ok (grid_of size.0.0 size.0.1 rows.0, rows.1)

-- ---- clues

abbrev pub is_plain : List ℕ → Bool
is_plain line = not (is_tag_line line)

-- the clues after the clue at each start is set to the text at the same index
abbrev pub with_clues : Direction → List Cell → Lines → ClueMap → ClueMap
with_clues direction [] texts clues = clues
with_clues direction (start ∷ starts) [] clues = clues
with_clues direction (start ∷ starts) (text ∷ texts) clues = with_clues direction starts texts (with_clue clues start direction text)

-- one line for each of these starts; `fault` if there are more lines before the next tag line or the end, or fewer
unfoldable pub clues_at : ReadFault → Direction → List Cell → ClueMap → Lines → Result (ClueMap × Lines) ReadFault
clues_at fault direction starts clues lines =
    if prefix_len is_plain lines == length starts then Ok (with_clues direction starts (take (length starts) lines) clues, drop (length starts) lines) else Err fault

abbrev pub clue_in : ReadFault → Direction → Cell → ClueMap → Option (List ℕ) → Lines → Result (ClueMap × Lines) ReadFault
clue_in fault direction start clues None rest = Err fault
clue_in fault direction start clues (Some line) rest = Ok (with_clue clues start direction line, rest)

-- the next line as the clue of the light at this start
unfoldable pub clue_at_start : ReadFault → Direction → Cell → ClueMap → Lines → Result (ClueMap × Lines) ReadFault
clue_at_start fault direction start clues lines = clue_in fault direction start clues (plain_at lines).0 (plain_at lines).1

unfoldable pub both_clues_at : Grid → Lines → Result (ClueMap × Lines) ReadFault
both_clues_at grid lines = do
  a ← tag_at tags.Across lines
  across ← clues_at faults.AcrossCount directions.Across (starts grid directions.Across) no_clues a
  b ← tag_at tags.Down across.1
  clues_at faults.DownCount directions.Down (starts grid directions.Down) across.0 b

-- ---- notes

unfoldable pub notes_at : Lines → Result (List ℕ) ReadFault
notes_at [] = Ok []
notes_at (line ∷ rest) = if names line (name_of tags.Notepad) then Ok (join_with_byte 10 rest) else Err (faults.Tag tags.Notepad)

-- ---- the whole file

unfoldable pub shape : Lines → Result PuzzleShown ReadFault
shape lines = do
  a ← header_at lines
  texts ← texts_at a
  grid ← grid_at texts.1
  clues ← both_clues_at grid.0 grid.1
  notes ← notes_at clues.1
  Ok (record { grid = grid.0; texts = record texts.0 { notes = notes }; clues = clues.0; circles = [] })

abbrev pub is_nul : ℕ → Bool
is_nul byte = byte == 0

abbrev pub shaped : Option ℕ → List ℕ → Result PuzzleShown ReadFault
shaped (Some offset) bytes = Err (faults.NulByte offset)
shaped None bytes = shape (text_lines bytes)

unfoldable pub all_of : List ℕ → Result PuzzleShown ReadFault
all_of bytes = shaped (position is_nul bytes) bytes
