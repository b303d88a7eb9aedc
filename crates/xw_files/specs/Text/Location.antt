-- The line of a text file at which a read fault is reported.
use Rattle.std.specs.Prelude.{ℕ, ◌+◌, ◌-◌, ◌==◌, ◌||◌, List, [], ◌∷◌, length, take, count_by, Option, Some, None, Result, Ok, if◌then◌else◌}
use Rattle.xw_grid.specs.declared.cell.Direction.TheVariants.{Across, Down}
use Rattle.xw_grid.specs.Grid.{Grid}
use Rattle.xw_text.specs.Lines.{is_line_feed}
use Rattle.xw_files.specs.declared.fault.Tag.TheVariants as tags
use Rattle.xw_files.specs.declared.fault.ReadFault.{ReadFault}
use Rattle.xw_files.specs.declared.fault.ReadFault.TheVariants as faults
use Rattle.xw_files.specs.declared.text.location.TextLocation.{TextLocation}
use Rattle.xw_files.specs.declared.text.location.TextLocation.TheVariants.{Line, End}
use Rattle.xw_files.specs.Steps.{◌>>=◌}
use Rattle.xw_files.specs.Text.Lines.{text_lines, file_lines}
use Rattle.xw_files.specs.Text.Tag.{header, name_of, names, is_tag_line}
use Rattle.xw_files.specs.Text.Starts.{starts}
use Rattle.xw_files.specs.Text.Shape.{header_at, texts_at, grid_at}

-- the lines after the first line with this name
abbrev pub after : List ℕ → List (List ℕ) → List (List ℕ)
after name [] = []
after name (line ∷ lines) = if names line name then lines else after name lines

-- the lines from the first one on that is neither blank nor one of the first `due` other lines; a tag line always
-- remains
abbrev pub left_after : ℕ → List (List ℕ) → List (List ℕ)
left_after due [] = []
left_after due (line ∷ lines) =
    if length line == 0 then left_after due lines
    else if (due == 0) || is_tag_line line then line ∷ lines
    else left_after (due - 1) lines

-- the tag line that precedes the location of a fault
abbrev pub tag_above : ReadFault → Option (List ℕ)
tag_above (faults.Tag tags.Title) = Some header
tag_above (faults.Tag tags.Author) = Some (name_of tags.Title)
tag_above (faults.Tag tags.Copyright) = Some (name_of tags.Author)
tag_above (faults.Tag tags.Size) = Some (name_of tags.Copyright)
tag_above faults.SizeLine = Some (name_of tags.Size)
tag_above (faults.Tag tags.Grid) = Some (name_of tags.Size)
tag_above (faults.GridLine row) = Some (name_of tags.Grid)
tag_above (faults.Tag tags.Across) = Some (name_of tags.Grid)
tag_above faults.AcrossCount = Some (name_of tags.Across)
tag_above (faults.Tag tags.Down) = Some (name_of tags.Across)
tag_above faults.DownCount = Some (name_of tags.Down)
tag_above (faults.Tag tags.Notepad) = Some (name_of tags.Down)
tag_above fault = None

-- the grid of a text file, whatever follows it
unfoldable pub grid_of_text : List ℕ → Result Grid ReadFault
grid_of_text bytes = do
  a ← header_at (text_lines bytes)
  texts ← texts_at a
  grid ← grid_at texts.1
  Ok grid.0

-- the number of lines that the format has between the tag line above a fault and the fault: a text, a size, rows or
-- clues
abbrev pub lines_due : List ℕ → ReadFault → Result ℕ ReadFault
lines_due bytes (faults.Tag tags.Author) = Ok 1
lines_due bytes (faults.Tag tags.Copyright) = Ok 1
lines_due bytes (faults.Tag tags.Size) = Ok 1
lines_due bytes (faults.Tag tags.Grid) = Ok 1
lines_due bytes (faults.GridLine row) = Ok (row - 1)
lines_due bytes (faults.Tag tags.Across) = grid_of_text bytes >>= λ grid. Ok grid.height
lines_due bytes faults.AcrossCount = grid_of_text bytes >>= λ grid. Ok (length (starts grid Across))
lines_due bytes (faults.Tag tags.Down) = grid_of_text bytes >>= λ grid. Ok (length (starts grid Across))
lines_due bytes faults.DownCount = grid_of_text bytes >>= λ grid. Ok (length (starts grid Down))
lines_due bytes (faults.Tag tags.Notepad) = grid_of_text bytes >>= λ grid. Ok (length (starts grid Down))
lines_due bytes fault = Ok 0

-- the lines under a tag line, or all lines if there is none
abbrev pub under : Option (List ℕ) → List (List ℕ) → List (List ℕ)
under None lines = lines
under (Some name) lines = after name lines

-- the line number at which the last `left` of `count` lines begin
abbrev pub location_before : ℕ → ℕ → TextLocation
location_before count left = if left == 0 then End else Line (count - left + 1)

-- the location after the first `due` lines under a tag line, or from the start of the file
abbrev pub location_under : Option (List ℕ) → ℕ → List (List ℕ) → TextLocation
location_under tag due lines = location_before (length lines) (length (left_after due (under tag lines)))

-- the location of a fault under a tag line, or at the start of the file
abbrev pub shape_location : List ℕ → ReadFault → Result (Option TextLocation) ReadFault
shape_location bytes fault = lines_due bytes fault >>= λ due. Ok (Some (location_under (tag_above fault) due (file_lines bytes)))

abbrev tag_location : List ℕ → ReadFault → Option (List ℕ) → Result (Option TextLocation) ReadFault
tag_location bytes fault None = Ok None
tag_location bytes fault (Some tag) = shape_location bytes fault

-- the location of a fault, if it has one
abbrev pub text_location : List ℕ → ReadFault → Result (Option TextLocation) ReadFault
text_location bytes (faults.NulByte offset) = Ok (Some (Line (count_by is_line_feed (take offset bytes) + 1)))
text_location bytes faults.Header = shape_location bytes faults.Header
text_location bytes fault = tag_location bytes fault (tag_above fault)
