-- Files of a call that must differ, and the failure that says so.
use Rattle.std.specs.Prelude.{◌≡◌, ◌⊎◌, ◌&&◌, ◌||◌, ℕ, Bool, true, false, not, bytes_eq, codes, is_some, List, Ok, Option, Some, None, option_map, IfSome}
use Rattle.std.specs.Borrow.{Bor}
use Rattle.xw_files.specs.declared.kind.Kind.TheVariants.{Puz}
use Rattle.xw_desk.specs.declared.apart.FileConflict.{FileConflict}
use Rattle.xw_desk.specs.declared.apart.FileConflict.TheVariants.{ListAndWritten, PuzzleAndSession, StartAndSession, StartAndPuzzle, InputAndWritten, OutputAndOther, OtherAndJournal}
use Rattle.xw_desk.specs.declared.apart.FileRole.{FileRole}
use Rattle.xw_desk.specs.declared.apart.FileRole.TheVariants.{Output, Kept, List as WordList, Puzzle, Start, Commands, Input, Written, Session, Journal}
use Rattle.xw_disk.specs.CallFile.{IsKeptAs, IsNamed, IsSource}
use Rattle.xw_disk.specs.Disk.{try_}
use Rattle.xw_disk.specs.declared.disk.CallFile.{CallFile}
use Rattle.xw_disk.specs.declared.disk.CallFile.TheVariants as call_files
use Rattle.xw_arguments.specs.declared.arguments.SessionFiles.{SessionFiles}
use Rattle.xw_desk.specs.declared.failure.Failure.{Failure}
use Rattle.xw_desk.specs.declared.failure.Failure.TheVariants as failures
use Rattle.xw_desk.specs.Desk.{Asks, Moment}
use Rattle.xw_desk.specs.Files.{IfNamed, IsUntried}
use Rattle.xw_desk.specs.Failures.{IsInUse}
use Rattle.xw_desk.specs.Names.{IsKindNamed}

-- ---- which files must differ

-- A file with the first role must not be the journal. Nor may it be the session or the puzzle to write, or a file that
-- is read: `list` says whether this is the word list.
abbrev pub conflict_with_journal : FileRole → Option FileConflict
conflict_with_journal Output = Some OtherAndJournal
conflict_with_journal Input = Some OtherAndJournal
conflict_with_journal WordList = Some OtherAndJournal
conflict_with_journal Written = Some OtherAndJournal
conflict_with_journal Session = Some OtherAndJournal
conflict_with_journal one = None

abbrev pub conflict_with_session : FileRole → Option FileConflict
conflict_with_session Output = Some OutputAndOther
conflict_with_session WordList = Some ListAndWritten
conflict_with_session Puzzle = Some StartAndSession
conflict_with_session Commands = Some InputAndWritten
conflict_with_session Written = Some PuzzleAndSession
conflict_with_session one = None

abbrev pub conflict_with_puzzle : FileRole → Option FileConflict
conflict_with_puzzle Output = Some OutputAndOther
conflict_with_puzzle Kept = Some PuzzleAndSession
conflict_with_puzzle WordList = Some ListAndWritten
conflict_with_puzzle Start = Some StartAndPuzzle
conflict_with_puzzle Commands = Some InputAndWritten
conflict_with_puzzle one = None

abbrev pub conflict_with_read : FileRole → Bool → Option FileConflict
conflict_with_read Output list = Some OutputAndOther
conflict_with_read Kept true = Some ListAndWritten
conflict_with_read one list = None

-- why files with these roles must differ, if they must
abbrev pub conflict_of : FileRole → FileRole → Option FileConflict
conflict_of one Journal = conflict_with_journal one
conflict_of one Session = conflict_with_session one
conflict_of one Written = conflict_with_puzzle one
conflict_of one WordList = conflict_with_read one true
conflict_of one Puzzle = conflict_with_read one false
conflict_of one Start = conflict_with_read one false
conflict_of one Commands = conflict_with_read one false
conflict_of one other = None

-- the file is named, and its name stands for standard input
abbrev pub is_input : Option (Bor (List ℕ)) → Bool
is_input None = false
is_input (Some name) = bytes_eq name.now (codes "-")

-- a file of the call is read from standard input
abbrev pub reads_input : SessionFiles → Bool
reads_input files = is_input files.dict || (is_input files.from_file || is_input files.resume_file)

-- the name of the file with this role in the call; standard input has the name `-`
abbrev pub name_of : SessionFiles → FileRole → Option (List ℕ)
name_of files WordList = option_map (λ name. name.now) files.dict
name_of files Puzzle = option_map (λ name. name.now) files.from_file
name_of files Start = option_map (λ name. name.now) files.resume_file
name_of files Commands = Some (codes "-")
name_of files Written = option_map (λ name. name.now) files.to_file
name_of files Session = option_map (λ name. name.now) files.save_file
name_of files Journal = option_map (λ name. name.now) files.journal_file
name_of files role = None

-- whether the call has a file with this role; commands come on standard input unless a file is read from it
abbrev pub has : SessionFiles → FileRole → Bool
has files Output = true
has files Kept = is_some files.save_file
has files WordList = is_some files.dict
has files Puzzle = is_some files.from_file
has files Start = is_some files.resume_file
has files Commands = not (reads_input files)
has files Input = true
has files Written = is_some files.to_file
has files Session = is_some files.save_file
has files Journal = is_some files.journal_file

-- this file of a call is the one with this role
abbrev pub IsFileOf : SessionFiles → FileRole → CallFile → Type 0
IsFileOf files Output file = file ≡ call_files.Output
IsFileOf files Kept file = IfNamed files.save_file (λ name. IsKeptAs name file)
IsFileOf files WordList file = IfNamed files.dict (λ name. IsSource name file)
IsFileOf files Puzzle file = IfNamed files.from_file (λ name. IsSource name file)
IsFileOf files Start file = IfNamed files.resume_file (λ name. IsSource name file)
IsFileOf files Commands file = (reads_input files ≡ false) × (file ≡ call_files.Input)
IsFileOf files Input file = IsNamed (codes "/dev/stdin") file
IsFileOf files Written file = IfNamed files.to_file (λ name. IsNamed name file)
IsFileOf files Session file = IfNamed files.save_file (λ name. IsNamed name file)
IsFileOf files Journal file = IfNamed files.journal_file (λ name. IsNamed name file)

-- this file is named for the session, and its name asks for `.puz`
abbrev pub IsNamedPuz : List ℕ → Failure → Type 0
IsNamedPuz name (failures.SavedAsPuz file) = file.now ≡ name
IsNamedPuz name other = ⊥

abbrev pub IsSavedAsPuz : List ℕ → Failure → Type 0
IsSavedAsPuz name failure = IsKindNamed name Puz × IsNamedPuz name failure

-- the session has a name that asks for `.puz`
abbrev pub IsRefusedPuz : Option (Bor (List ℕ)) → Failure → Type 0
IsRefusedPuz saved failure = IfNamed saved (λ name. IsSavedAsPuz name failure)

-- the word list and another file to start with are standard input
abbrev pub IsReadTwice : SessionFiles → Failure → Type 0
IsReadTwice files failure = (is_input files.dict && (is_input files.from_file || is_input files.resume_file) ≡ true) × (failure ≡ failures.InputTwice)

-- The files of the call with these roles must differ, and the disk found that they are one. The failure says so, and names
-- the second.
abbrev pub IsFoundOne : SessionFiles → FileRole → FileRole → Failure → Type 0
IsFoundOne files one other (failures.SameFile conflict file same) =
    (conflict_of one other ≡ Some conflict) × IfSome (name_of files other) (λ name. file.now ≡ name) × IsFileOf files one same.one × IsFileOf files other same.other
IsFoundOne files one other failure = ⊥

-- two files of the call must differ, and are one; or an allocation failed
abbrev pub IsRefused : SessionFiles → Failure → Type 0
IsRefused files failure = (failure ≡ failures.Memory) ⊎ ((one : FileRole) × (other : FileRole) × IsFoundOne files one other failure)

-- two files are standard input, the session is written as `.puz`, or two files are one that must differ
abbrev pub IsNotApart : SessionFiles → Failure → Type 0
IsNotApart files failure = IsReadTwice files failure ⊎ (IsRefusedPuz files.save_file failure ⊎ IsRefused files failure)

-- another program has a file to write as its journal
abbrev pub IsRefusedJournal : Option (Bor (List ℕ)) → Failure → Type 0
IsRefusedJournal written failure = IfNamed written (λ name. IsInUse name failure)

abbrev pub AreInUse : SessionFiles → Failure → Type 0
AreInUse files failure = IsRefusedJournal files.save_file failure ⊎ IsRefusedJournal files.to_file failure

-- the file was tried and can be written, if one is named
abbrev pub CanWrite : Option (Bor (List ℕ)) → Moment → Moment → Type 0
CanWrite None old new = new ≡ old
CanWrite (Some file) old new = Asks (try_ file.now (Ok tt)) old new

-- the file was tried and cannot be written
abbrev pub IsRefusedWrite : Option (Bor (List ℕ)) → Failure → Moment → Moment → Type 0
IsRefusedWrite written failure old new = IfNamed written (λ name. IsUntried name failure old new)

-- The files to write at the end were tried, and can be written now.
pub record AreWritable (files : SessionFiles) (old new : Moment) : Type 0 where
  pub mid : Moment
  pub session : CanWrite files.save_file old mid
  pub puzzle : CanWrite files.to_file mid new

-- The session can be written, and the puzzle cannot.
pub record IsPuzzleUnwritable (files : SessionFiles) (failure : Failure) (old new : Moment) : Type 0 where
  pub mid : Moment
  pub session : CanWrite files.save_file old mid
  pub puzzle : IsRefusedWrite files.to_file failure mid new

-- a file to write at the end cannot be written now
abbrev pub AreUnwritable : SessionFiles → Failure → Moment → Moment → Type 0
AreUnwritable files failure old new = IsRefusedWrite files.save_file failure old new ⊎ IsPuzzleUnwritable files failure old new
