-- How a puzzle is written to a file: what the file had is kept first if it would be lost.
use Rattle.std.specs.Prelude.{◌≡◌, ◌⊎◌, ◌||◌, ℕ, Bool, true, false, List, Ok, Err, is_some}
use Rattle.xw_grid.specs.Puzzle.{PuzzleShown}
use Rattle.xw_disk.specs.Disk.{keep, read, replace, stands}
use Rattle.xw_disk.specs.declared.disk.DiskFault.{DiskFault}
use Rattle.xw_disk.specs.declared.disk.DiskFault.TheVariants as faults
use Rattle.xw_disk.specs.declared.disk.Standing.{Standing}
use Rattle.xw_disk.specs.declared.disk.Standing.TheVariants.{Nothing, AsRead, Other}
use Rattle.xw_arguments.specs.declared.arguments.SessionFiles.{SessionFiles}
use Rattle.xw_desk.specs.declared.failure.Failure.{Failure}
use Rattle.xw_desk.specs.declared.failure.Failure.TheVariants as failures
use Rattle.xw_desk.specs.declared.location.Location.{Location}
use Rattle.xw_desk.specs.declared.location.Location.TheVariants as locations
use Rattle.xw_desk.specs.Desk.{Asks, Moment, Reports}
use Rattle.xw_desk.specs.Files.{AreBytesFor, IsUnfit, IsUnreplaced}
use Rattle.xw_desk.specs.Names.{is_session}
use Rattle.xw_desk.specs.Failures.{IsCannotWrite, IsInUse, IsOldFaultOf}
use Rattle.xw_cli_files.specs.Keeping.{old_line}

-- ---- bytes that are kept

-- These bytes of the file with this name are kept under some number, and this is reported.
pub record HasKeptBytes (name bytes : List ℕ) (old new : Moment) : Type 0 where
  pub number : ℕ
  pub mid : Moment
  pub keeps : Asks (keep name bytes number (Ok tt)) old mid
  pub told : Reports (old_line false name number) mid new

-- The bytes were not kept, and the failure names the name that they were to get.
pub record IsNoCopy (name bytes : List ℕ) (failure : Failure) (old new : Moment) : Type 0 where
  pub number : ℕ
  pub fault : DiskFault
  pub told : IsOldFaultOf fault name number failure
  pub keeps : Asks (keep name bytes number (Err fault)) old new

-- why these bytes are not kept: they were not copied, or they were, and the report of this could not be allocated
abbrev pub IsUnkept : List ℕ → List ℕ → Failure → Moment → Moment → Type 0
IsUnkept name bytes failure old new = IsNoCopy name bytes failure old new ⊎ ((failure ≡ failures.Memory) × (number : ℕ) × Asks (keep name bytes number (Ok tt)) old new)

-- the bytes are kept if this is due, and otherwise nothing happens
abbrev pub KeepsIf : Bool → List ℕ → List ℕ → Moment → Moment → Type 0
KeepsIf true name bytes old new = HasKeptBytes name bytes old new
KeepsIf false name bytes old new = new ≡ old

-- Lines name what of these bytes is lost, and they are kept.
pub record IsLostKept (name bytes : List ℕ) (old new : Moment) : Type 0 where
  pub lines : List ℕ
  pub mid : Moment
  pub told : Reports lines old mid
  pub keeps : HasKeptBytes name bytes mid new

-- something of these bytes is lost, and they are kept, or nothing is. What counts, and what the lines say, is shown by run
-- cases.
abbrev pub KeepsLost : List ℕ → List ℕ → Moment → Moment → Type 0
KeepsLost name bytes old new = (new ≡ old) ⊎ IsLostKept name bytes old new

-- Lines name what of these bytes is lost, and they are not kept.
pub record IsLostUnkept (name bytes : List ℕ) (failure : Failure) (old new : Moment) : Type 0 where
  pub lines : List ℕ
  pub mid : Moment
  pub told : Reports lines old mid
  pub why : IsUnkept name bytes failure mid new

-- ---- what a file has before a puzzle is written over it

-- The file with this name is read, and P says what is done with its bytes.
pub record ReadsAndKeeps (P : List ℕ → List ℕ → Moment → Moment → Type 0) (name : List ℕ) (old new : Moment) : Type 0 where
  pub bytes : List ℕ
  pub mid : Moment
  pub reads : Asks (read name (Ok bytes)) old mid
  pub keeps : P name bytes mid new

-- The file is kept if it is a session and the call did not read it or it has changed since. One that the call read is kept if
-- something of it is lost.
abbrev pub KeepsFirstAs : Standing → List ℕ → Moment → Moment → Type 0
KeepsFirstAs Nothing name old new = new ≡ old
KeepsFirstAs AsRead name old new = ReadsAndKeeps KeepsLost name old new
KeepsFirstAs Other name old new = ReadsAndKeeps (λ name bytes. KeepsIf (is_session bytes) name bytes) name old new

-- The disk said what the file with this name is, and the file is kept if it has to be.
pub record KeepsFirst (name : List ℕ) (old new : Moment) : Type 0 where
  pub standing : Standing
  pub mid : Moment
  pub asks : Asks (stands name standing) old mid
  pub keeps : KeepsFirstAs standing name mid new

-- the failure for a file that is not read before it is replaced
abbrev pub IsUnseenFor : DiskFault → List ℕ → Failure → Type 0
IsUnseenFor faults.Memory name failure = failure ≡ failures.Memory
IsUnseenFor other name failure = IsCannotWrite name failure

-- The file with this name was to be read before it is replaced, and was not.
pub record IsUnseen (name : List ℕ) (failure : Failure) (old new : Moment) : Type 0 where
  pub fault : DiskFault
  pub told : IsUnseenFor fault name failure
  pub asks : Asks (read name (Err fault)) old new

-- The file was read, and was not kept, or what is lost of it could not be named.
pub record IsReadUnkept (name : List ℕ) (failure : Failure) (old new : Moment) : Type 0 where
  pub bytes : List ℕ
  pub mid : Moment
  pub reads : Asks (read name (Ok bytes)) old mid
  pub why : IsUnkept name bytes failure mid new ⊎ (((failure ≡ failures.Memory) × (new ≡ mid)) ⊎ IsLostUnkept name bytes failure mid new)

-- why a file is not kept that is there
abbrev pub UnkeptRead : List ℕ → Failure → Moment → Moment → Type 0
UnkeptRead name failure old new = IsUnseen name failure old new ⊎ IsReadUnkept name failure old new

-- The disk said what the file with this name is, and it is not kept though it has to be.
pub record IsStandingUnkept (name : List ℕ) (failure : Failure) (old new : Moment) : Type 0 where
  pub standing : Standing
  pub mid : Moment
  pub asks : Asks (stands name standing) old mid
  pub why : UnkeptRead name failure mid new

-- why a file is not kept before a puzzle is written over it: another program has it as its journal, or it could not be kept
abbrev pub IsNotKeptFirst : List ℕ → Failure → Moment → Moment → Type 0
IsNotKeptFirst name failure old new = (IsInUse name failure × (new ≡ old)) ⊎ IsStandingUnkept name failure old new

-- ---- the puzzle

-- The file with this name has the puzzle, in the format that the name asks for.
pub record IsPutOver (name : List ℕ) (puzzle : PuzzleShown) (old new : Moment) : Type 0 where
  pub bytes : List ℕ
  pub are : AreBytesFor name puzzle bytes
  pub mid : Moment
  pub keeps : KeepsFirst name old mid
  pub asks : Asks (replace name bytes (Ok tt)) mid new

-- The bytes of the puzzle were not made, and the disk was not asked.
pub record IsUnmade (name : List ℕ) (puzzle : PuzzleShown) (failure : Failure) (old new : Moment) : Type 0 where
  pub told : (failure ≡ failures.Memory) ⊎ IsUnfit name old.explains puzzle failure
  pub unasked : new ≡ old

-- The bytes of the puzzle were made, and the file was not kept before.
pub record IsPutUnkept (name : List ℕ) (puzzle : PuzzleShown) (failure : Failure) (old new : Moment) : Type 0 where
  pub bytes : List ℕ
  pub are : AreBytesFor name puzzle bytes
  pub why : IsNotKeptFirst name failure old new

-- The file is kept if it has to be, and then does not get the puzzle.
pub record IsPutInVain (name : List ℕ) (puzzle : PuzzleShown) (failure : Failure) (old new : Moment) : Type 0 where
  pub bytes : List ℕ
  pub are : AreBytesFor name puzzle bytes
  pub mid : Moment
  pub keeps : KeepsFirst name old mid
  pub unreplaced : IsUnreplaced name bytes failure mid new

-- why the file with this name does not get the puzzle
abbrev pub IsNotPutOver : List ℕ → PuzzleShown → Failure → Moment → Moment → Type 0
IsNotPutOver name puzzle failure old new = IsUnmade name puzzle failure old new ⊎ (IsPutUnkept name puzzle failure old new ⊎ IsPutInVain name puzzle failure old new)

-- ---- the puzzle of a session

-- whether a file of the call keeps the session
abbrev pub is_kept : SessionFiles → Bool
is_kept files = is_some files.save_file || is_some files.journal_file

-- the location of a fault in the puzzle of a session that no file keeps: an empty cell is told in other words
abbrev pub unkept_location : Location → Location
unkept_location (locations.Cell cell) = locations.Unkept cell
unkept_location location = location

-- the failure of this puzzle
abbrev pub unkept_failure : Failure → Failure
unkept_failure (failures.Located file name location) = failures.Located file name (unkept_location location)
unkept_failure failure = failure

-- the failure of the puzzle of a session
abbrev pub of_session : Bool → Failure → Failure
of_session true failure = failure
of_session false failure = unkept_failure failure
