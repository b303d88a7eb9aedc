-- The locations of file faults, and how they are printed.
use Rattle.std.specs.Prelude.{ℕ, ◌-◌, ◌++◌, List, Option, Some, None, Result, Ok, Err, codes, decimal, if◌then◌else◌, slice_get}
use Rattle.xw_files.specs.declared.fault.Piece.TheVariants.{Header, Boards}
use Rattle.xw_files.specs.declared.fault.TextName.{TextName}
use Rattle.xw_files.specs.declared.fault.TextName.TheVariants as texts
use Rattle.xw_files.specs.declared.fault.SumName.TheVariants as sums
use Rattle.xw_files.specs.declared.fault.ReadFault.{ReadFault}
use Rattle.xw_files.specs.declared.fault.ReadFault.TheVariants as reads
use Rattle.xw_files.specs.declared.fault.WriteFault.{WriteFault}
use Rattle.xw_files.specs.declared.fault.WriteFault.TheVariants as writes
use Rattle.xw_files.specs.declared.text.location.TextLocation.{TextLocation}
use Rattle.xw_files.specs.declared.text.location.TextLocation.TheVariants as lines
use Rattle.xw_files.specs.Puz.Board.{grid_of_puz}
use Rattle.xw_files.specs.Text.Location.{text_location as location_text_location}
use Rattle.xw_commands.specs.Names.{direction_name}
use Rattle.xw_grid.specs.declared.lights.Light.{Light}
use Rattle.xw_grid.specs.Grid.{Grid}
use Rattle.xw_grid.specs.Light.{lights_of}
use Rattle.xw_desk.specs.Names.{is_session}
use Rattle.xw_desk.specs.declared.location.Location.{Location}
use Rattle.xw_desk.specs.declared.location.Location.TheVariants as locations

-- ---- the location of each fault

-- the clue at index k, from 1, with its light if there is one
abbrev pub clue_location : ℕ → Option Light → Location
clue_location k (Some light) = locations.Clue k light.name
clue_location k None = locations.Text (texts.Clue k)

-- a text of a puzzle with these lights
abbrev pub text_location : List Light → TextName → Location
text_location lights texts.Title = locations.Text texts.Title
text_location lights texts.Author = locations.Text texts.Author
text_location lights texts.Copyright = locations.Text texts.Copyright
text_location lights (texts.Clue k) = clue_location k (slice_get lights (k - 1))
text_location lights texts.Notes = locations.Text texts.Notes

abbrev pub write_location : Grid → WriteFault → Option Location
write_location grid writes.Barred = None
write_location grid (writes.NotFilled cell) = Some (locations.Cell cell)
write_location grid (writes.Field text) = Some (text_location (lights_of grid) text)
write_location grid writes.Memory = None
write_location grid (writes.Circled cell) = Some (locations.Cell cell)

-- an unterminated text, with its light if the file's grid can be read
abbrev pub cut_text_location : Result Grid ReadFault → TextName → Location
cut_text_location (Ok grid) text = text_location (lights_of grid) text
cut_text_location (Err fault) text = locations.Text text

-- the line of a fault of a text file, if it has one
abbrev pub line_location : Result (Option TextLocation) ReadFault → Option Location
line_location (Ok None) = None
line_location (Ok (Some (lines.Line number))) = Some (locations.Line number)
line_location (Ok (Some lines.End)) = Some locations.End
line_location (Err fault) = None

-- the first line of a text file that is no puzzle file
abbrev pub header_location : List ℕ → Option Location
header_location bytes = if is_session bytes then Some locations.Session else line_location (location_text_location bytes reads.Header)

abbrev pub read_location : List ℕ → ReadFault → Option Location
read_location bytes (reads.Short piece) = Some (locations.Piece piece)
read_location bytes (reads.NoNul text) = Some (cut_text_location (grid_of_puz bytes) text)
read_location bytes (reads.BadSum sum) = Some (locations.Sum sum)
read_location bytes (reads.BadCell cell) = Some (locations.Cell cell)
read_location bytes reads.Header = header_location bytes
read_location bytes fault = line_location (location_text_location bytes fault)

-- ---- how a location is printed

abbrev pub location_text : Location → List ℕ
location_text (locations.Cell cell) = codes "row " ++ decimal cell.row ++ codes ", column " ++ decimal cell.col
location_text (locations.Unkept cell) = codes "row " ++ decimal cell.row ++ codes ", column " ++ decimal cell.col
location_text (locations.Piece Header) = codes "header"
location_text (locations.Piece Boards) = codes "boards"
location_text (locations.Text texts.Title) = codes "title"
location_text (locations.Text texts.Author) = codes "author"
location_text (locations.Text texts.Copyright) = codes "copyright"
location_text (locations.Text (texts.Clue k)) = codes "clue " ++ decimal k
location_text (locations.Text texts.Notes) = codes "notes"
location_text (locations.Clue k light) = codes "clue " ++ decimal k ++ codes " (" ++ decimal light.number ++ codes " " ++ direction_name light.direction ++ codes ")"
location_text (locations.Sum sums.Cib) = codes "CIB checksum"
location_text (locations.Sum sums.File) = codes "file checksum"
location_text (locations.Sum (sums.Masked k)) = codes "masked byte " ++ decimal k
location_text (locations.Line number) = codes "line " ++ decimal number
location_text locations.Session = codes "line 1"
location_text locations.End = codes "end of file"
