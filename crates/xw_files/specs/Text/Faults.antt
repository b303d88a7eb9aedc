-- The faults of a text file, each defined apart from the steps of the reader, and their order.
use Rattle.std.specs.Prelude.{◌≡◌, ◌≢◌, ◌⊎◌, ℕ, ◌-◌, ◌<◌, ◌≤◌, true, false, List, [], ◌∷◌, length, take, drop, map, flat_map, Option, Some, None, if◌then◌else◌, slice_get}
use Rattle.std.specs.List.{prefix_len}
use Rattle.xw_grid.specs.declared.cell.Direction.{Direction}
use Rattle.xw_grid.specs.declared.cell.Direction.TheVariants as directions
use Rattle.xw_grid.specs.Grid.{Grid}
use Rattle.xw_grid.specs.Edit.{grid_of}
use Rattle.xw_files.specs.declared.fault.Tag.TheVariants as tags
use Rattle.xw_files.specs.declared.fault.ReadFault.{ReadFault}
use Rattle.xw_files.specs.declared.fault.ReadFault.TheVariants as faults
use Rattle.xw_files.specs.Order.{IsLess}
use Rattle.xw_files.specs.Text.Lines.{text_lines, first_of}
use Rattle.xw_files.specs.Text.Tag.{header, name_of, names, is_tag_line}
use Rattle.xw_files.specs.Text.Starts.{starts}
use Rattle.xw_files.specs.Text.Shape.{Lines, is_plain, is_bad_square, square_of}
use Rattle.xw_files.specs.Text.Relation.{IsPlain, IsSizeLine}

-- ---- the parts of a file: the lines from the location of each tag line on, whether or not the tag line is right

-- the lines after the first one
abbrev pub below : Lines → Lines
below [] = []
below (line ∷ lines) = lines

-- the lines without the first one, if that is no tag line
abbrev pub past_line : Lines → Lines
past_line [] = []
past_line (line ∷ lines) = if is_tag_line line then line ∷ lines else lines

-- the number of lines up to the next tag line, or up to the end
abbrev pub count_plain : Lines → ℕ
count_plain lines = prefix_len is_plain lines

-- the lines from the next tag line on
abbrev pub past_lines : Lines → Lines
past_lines lines = drop (count_plain lines) lines

abbrev pub from_title : Lines → Lines
from_title lines = below lines

-- under <TITLE>, <AUTHOR>, <COPYRIGHT> and <SIZE> there is at most one line each
abbrev pub from_author : Lines → Lines
from_author lines = past_line (below (from_title lines))

abbrev pub from_copyright : Lines → Lines
from_copyright lines = past_line (below (from_author lines))

abbrev pub from_size : Lines → Lines
from_size lines = past_line (below (from_copyright lines))

abbrev pub from_grid : Lines → Lines
from_grid lines = past_line (below (from_size lines))

-- under <GRID> there is a line for each row
abbrev pub from_across : ℕ → Lines → Lines
from_across height lines = drop height (below (from_grid lines))

-- the clues are under <ACROSS> and <DOWN>, up to the next tag line
abbrev pub from_down : ℕ → Lines → Lines
from_down height lines = past_lines (below (from_across height lines))

abbrev pub from_notes : ℕ → Lines → Lines
from_notes height lines = past_lines (below (from_down height lines))

-- ---- what can be wrong in a part

-- the first line is not the one of that name, or there is no line
abbrev pub Lacks : List ℕ → Lines → Type 0
Lacks name [] = Unit {0}
Lacks name (line ∷ lines) = names line name ≡ false

-- there is a first line, and it is not the one of that name
abbrev pub HasOther : List ℕ → Lines → Type 0
HasOther name [] = ⊥
HasOther name (line ∷ lines) = names line name ≡ false

-- the first line is a size line
pub record HasSize (lines : Lines) (width height : ℕ) : Type 0 where
  pub line : List ℕ
  pub first : first_of lines ≡ Some line
  pub plain : IsPlain line
  pub size : IsSizeLine width height line

-- the line of a row is missing, is a tag line or has another width
abbrev pub IsNoRow : ℕ → Option (List ℕ) → Type 0
IsNoRow width None = Unit {0}
IsNoRow width (Some line) = (is_tag_line line ≡ true) ⊎ (length line ≢ width)

-- the byte in this column, from 1, is not that of a square
abbrev pub HasBadByte : ℕ → Option (List ℕ) → Type 0
HasBadByte col None = ⊥
HasBadByte col (Some line) = (byte : ℕ) × (1 ≤ col) × (slice_get line (col - 1) ≡ Some byte) × (is_bad_square byte ≡ true)

-- there is a size line, and P holds for its width and height
abbrev pub WithSize : Lines → (ℕ → ℕ → Type 0) → Type 0
WithSize lines P = (width : ℕ) × (height : ℕ) × HasSize (below (from_size lines)) width height × P width height

-- There is a size line, the grid has this row, and P holds for the width and the row's line. Row 1 is the line after
-- <GRID>.
abbrev pub WithRow : Lines → ℕ → (ℕ → Option (List ℕ) → Type 0) → Type 0
WithRow lines row P = WithSize lines (λ width height. (1 ≤ row) × (row ≤ height) × P width (slice_get (from_grid lines) row))

-- the grid that the rows spell
abbrev pub grid_in : ℕ → ℕ → Lines → Grid
grid_in width height lines = grid_of width height (flat_map (map square_of) (take height (below (from_grid lines))))

-- there are more lines up to the next tag line than lights of the direction, or fewer
abbrev pub CountsApart : Direction → Grid → Lines → Type 0
CountsApart direction grid lines = count_plain lines ≢ length (starts grid direction)

-- ---- faults

-- Each fault is defined by itself, so it may hold even if lines above it are wrong too. The order below says which one
-- is first.

-- the lines have a fault, whether or not they have others
abbrev pub LinesHave : Lines → ReadFault → Type 0
LinesHave lines faults.Header = Lacks header lines
LinesHave lines (faults.Tag tags.Title) = Lacks (name_of tags.Title) (from_title lines)
LinesHave lines (faults.Tag tags.Author) = Lacks (name_of tags.Author) (from_author lines)
LinesHave lines (faults.Tag tags.Copyright) = Lacks (name_of tags.Copyright) (from_copyright lines)
LinesHave lines (faults.Tag tags.Size) = Lacks (name_of tags.Size) (from_size lines)
LinesHave lines faults.SizeLine = (width height : ℕ) → HasSize (below (from_size lines)) width height → ⊥
LinesHave lines (faults.Tag tags.Grid) = Lacks (name_of tags.Grid) (from_grid lines)
LinesHave lines (faults.GridLine row) = WithRow lines row IsNoRow
LinesHave lines (faults.BadCell cell) = WithRow lines cell.row (λ width line. HasBadByte cell.col line)
LinesHave lines (faults.Tag tags.Across) = WithSize lines (λ width height. Lacks (name_of tags.Across) (from_across height lines))
LinesHave lines faults.AcrossCount = WithSize lines (λ width height. CountsApart directions.Across (grid_in width height lines) (below (from_across height lines)))
LinesHave lines (faults.Tag tags.Down) = WithSize lines (λ width height. Lacks (name_of tags.Down) (from_down height lines))
LinesHave lines faults.DownCount = WithSize lines (λ width height. CountsApart directions.Down (grid_in width height lines) (below (from_down height lines)))
LinesHave lines (faults.Tag tags.Notepad) = WithSize lines (λ width height. HasOther (name_of tags.Notepad) (from_notes height lines))
LinesHave lines fault = ⊥

-- a text file has a fault, whether or not it has others
abbrev pub HasFault : List ℕ → ReadFault → Type 0
HasFault bytes (faults.NulByte offset) = slice_get bytes offset ≡ Some 0
HasFault bytes fault = LinesHave (text_lines bytes) fault

-- ---- their order

-- the place of a fault in the order: NULs come first, then the parts of the file from the top
abbrev pub location_of : ReadFault → ℕ
location_of (faults.NulByte offset) = 0
location_of faults.Header = 1
location_of (faults.Tag tags.Title) = 2
location_of (faults.Tag tags.Author) = 3
location_of (faults.Tag tags.Copyright) = 4
location_of (faults.Tag tags.Size) = 5
location_of faults.SizeLine = 6
location_of (faults.Tag tags.Grid) = 7
location_of (faults.GridLine row) = 8
location_of (faults.BadCell cell) = 8
location_of (faults.Tag tags.Across) = 9
location_of faults.AcrossCount = 10
location_of (faults.Tag tags.Down) = 11
location_of faults.DownCount = 12
location_of (faults.Tag tags.Notepad) = 13
location_of fault = 14

-- the order within one part: of NULs, the offset; in the grid, the row, and then 0 for its line or the column of a
-- cell
abbrev pub within_location : ReadFault → ℕ × ℕ
within_location (faults.NulByte offset) = (offset, 0)
within_location (faults.GridLine row) = (row, 0)
within_location (faults.BadCell cell) = (cell.row, cell.col)
within_location fault = (0, 0)

-- one fault comes before another
abbrev pub ComesBefore : ReadFault → ReadFault → Type 0
ComesBefore one other = (location_of one < location_of other) ⊎ ((location_of one ≡ location_of other) × IsLess (within_location one) (within_location other))

-- a text file has the fault, and none that comes before it
abbrev pub IsFirstFault : List ℕ → ReadFault → Type 0
IsFirstFault bytes fault = HasFault bytes fault × ((earlier : ReadFault) → ComesBefore earlier fault → HasFault bytes earlier → ⊥)

-- a text file has no fault
abbrev pub HasNoFault : List ℕ → Type 0
HasNoFault bytes = (fault : ReadFault) → HasFault bytes fault → ⊥

-- a text file has at most one first fault
abbrev pub HasOneFirstFault : Type 0
HasOneFirstFault = (bytes : List ℕ) (one other : ReadFault) → IsFirstFault bytes one → IsFirstFault bytes other → one ≡ other
