-- Which failure names a file that cannot be read or written, or a fault of a file; what is read from a puzzle file,
-- and what is written to one.
use Rattle.std.specs.Prelude.{◌≡◌, ◌⊎◌, ◌++◌, ℕ, Bool, true, false, List, Option, Some, None, Ok, Err, codes}
use Rattle.std.specs.Borrow.{Bor}
use Rattle.std.specs.List.{list_any}
use Rattle.xw_grid.specs.Puzzle.{PuzzleShown}
use Rattle.xw_files.specs.FaultNames.{read_fault_name, write_fault_name}
use Rattle.xw_files.specs.Puz.Sections.{Section}
use Rattle.xw_files.specs.Puz.Rebus.{HasSections, is_rebus}
use Rattle.xw_files.specs.Formats.{HasFormat, IsFirstFault, IsRead, written_as}
use Rattle.xw_files.specs.declared.fault.ReadFault.{ReadFault}
use Rattle.xw_files.specs.declared.fault.WriteFault.{WriteFault}
use Rattle.xw_files.specs.declared.kind.Kind.{Kind}
use Rattle.xw_files.specs.declared.kind.Kind.TheVariants.{Puz, Text}
use Rattle.xw_desk.specs.declared.failure.Failure.{Failure}
use Rattle.xw_desk.specs.declared.failure.Failure.TheVariants as failures
use Rattle.xw_desk.specs.declared.location.Location.{Location}
use Rattle.xw_disk.specs.Disk.{read, replace, try_}
use Rattle.xw_disk.specs.declared.disk.DiskFault.{DiskFault}
use Rattle.xw_desk.specs.Desk.{Asks, Moment, Reports, ReportsIf}
use Rattle.xw_desk.specs.Failures.{IsFaultOf}
use Rattle.xw_desk.specs.Explained.{rebus_line}
use Rattle.xw_desk.specs.Names.{HasEnding, IsKindNamed}
use Rattle.xw_desk.specs.Locations.{read_location, write_location}

-- ---- failures

-- the file with this name has the fault with this name, at this location if one is reported
abbrev pub IsFileFault : List ℕ → List ℕ → Option Location → Failure → Type 0
IsFileFault name fault None (failures.File file told) = (file.now ≡ name) × (told.now ≡ fault)
IsFileFault name fault (Some location) (failures.Located file told there) = (file.now ≡ name) × (told.now ≡ fault) × (there ≡ location)
IsFileFault name fault location other = ⊥

-- the line with this number of the file has the fault with this name
abbrev pub IsLineFault : List ℕ → ℕ → List ℕ → Failure → Type 0
IsLineFault name number fault (failures.Line file line told) = (file.now ≡ name) × (line ≡ number) × (told.now ≡ fault)
IsLineFault name number fault other = ⊥

-- the location if `explain` is set, and otherwise none
abbrev pub location_if : Bool → Option Location → Option Location
location_if true location = location
location_if false location = None

-- ---- reading a file

-- The file with this name was to be read, and was not.
pub record IsUnreadFile (name : List ℕ) (failure : Failure) (old new : Moment) : Type 0 where
  pub fault : DiskFault
  pub told : IsFaultOf fault name failure
  pub asks : Asks (read name (Err fault)) old new

-- ---- reading a puzzle file

-- The bytes have a first fault in their format. The failure names it and the file, and its location if `explain` is
-- set.
pub record IsMalformed (name : List ℕ) (explain : Bool) (bytes : List ℕ) (failure : Failure) : Type 0 where
  pub kind : Kind
  pub format : HasFormat bytes kind
  pub fault : ReadFault
  pub first : IsFirstFault kind bytes fault
  pub told : IsFileFault name (read_fault_name fault) (location_if explain (read_location bytes fault)) failure

-- The file with this name was read, and its bytes are malformed, or an allocation failed.
pub record IsBadPuzzle (name : List ℕ) (failure : Failure) (old new : Moment) : Type 0 where
  pub bytes : List ℕ
  pub asks : Asks (read name (Ok bytes)) old new
  pub told : (failure ≡ failures.Memory) ⊎ IsMalformed name old.explains bytes failure

-- why the puzzle file with this name is not read
abbrev pub IsUnread : List ℕ → Failure → Moment → Moment → Type 0
IsUnread name failure old new = IsUnreadFile name failure old new ⊎ IsBadPuzzle name failure old new

-- rebus cells of a `.puz` file are reported, and nothing else
abbrev pub IsRebusTold : List ℕ → Kind → List ℕ → Moment → Moment → Type 0
IsRebusTold name Puz bytes old new = (sections : List Section) → HasSections bytes sections → ReportsIf (list_any is_rebus sections) (rebus_line name) old new
IsRebusTold name Text bytes old new = new ≡ old

-- The file with this name was read, its bytes mean this puzzle in this format, and rebus cells in it are reported.
pub record IsFound (name : List ℕ) (kind : Kind) (puzzle : PuzzleShown) (old new : Moment) : Type 0 where
  pub bytes : List ℕ
  pub mid : Moment
  pub asks : Asks (read name (Ok bytes)) old mid
  pub means : IsRead kind bytes puzzle
  pub rebus : IsRebusTold name kind bytes mid new

-- ---- writing a file

-- The file with this name was tried, and could not be replaced.
pub record IsUntried (name : List ℕ) (failure : Failure) (old new : Moment) : Type 0 where
  pub fault : DiskFault
  pub told : IsFaultOf fault name failure
  pub asks : Asks (try_ name (Err fault)) old new

-- The file with this name was to have these bytes, and was not replaced.
pub record IsUnreplaced (name bytes : List ℕ) (failure : Failure) (old new : Moment) : Type 0 where
  pub fault : DiskFault
  pub told : IsFaultOf fault name failure
  pub asks : Asks (replace name bytes (Err fault)) old new

-- ---- writing a puzzle file

-- these are the bytes of the puzzle in the format that the name asks for
pub record AreBytesFor (name : List ℕ) (puzzle : PuzzleShown) (bytes : List ℕ) : Type 0 where
  pub kind : Kind
  pub named : IsKindNamed name kind
  pub written : written_as kind puzzle ≡ Ok bytes

-- The format that the name asks for cannot hold the puzzle. The failure names the first reason and the file, and the
-- location if `explain` is set.
pub record IsUnfit (name : List ℕ) (explain : Bool) (puzzle : PuzzleShown) (failure : Failure) : Type 0 where
  pub kind : Kind
  pub named : IsKindNamed name kind
  pub fault : WriteFault
  pub refused : written_as kind puzzle ≡ Err fault
  pub told : IsFileFault name (write_fault_name fault) (location_if explain (write_location puzzle.grid fault)) failure

-- ---- a puzzle that is written as text

-- the name asks for a format
abbrev pub AsksForFormat : List ℕ → Type 0
AsksForFormat name = HasEnding name (codes ".puz") ⊎ HasEnding name (codes ".txt")

-- the report of a puzzle that is written as text because the name of its file asks for no format
abbrev pub text_line : List ℕ → List ℕ
text_line name = codes "xw: " ++ name ++ codes ": written as text\n"

-- the report that is due, if one is
abbrev pub IsTextNote : List ℕ → Option (List ℕ) → Type 0
IsTextNote name None = AsksForFormat name
IsTextNote name (Some note) = (AsksForFormat name → ⊥) × (note ≡ text_line name)

-- the report is written if it is due, and otherwise nothing is
abbrev pub IsTextTold : List ℕ → Moment → Moment → Type 0
IsTextTold name old new = (AsksForFormat name × (new ≡ old)) ⊎ ((AsksForFormat name → ⊥) × Reports (text_line name) old new)

-- ---- files that are named

-- the file is named, and P holds for its name
abbrev pub IfNamed : Option (Bor (List ℕ)) → (List ℕ → Type 0) → Type 0
IfNamed None P = ⊥
IfNamed (Some file) P = P file.now
