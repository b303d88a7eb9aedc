-- What `check` prints of puzzle files, and how it ends.
use Rattle.std.specs.Prelude.{◌≡◌, ◌⊎◌, ◌++◌, ℕ, Bool, true, false, List, [], ◌∷◌, Result, Ok, Err, codes, decimal, fold, if◌then◌else◌, length, nat_lt}
use Rattle.xw_grid.specs.Grid.{Grid}
use Rattle.xw_grid.specs.Light.{lights_of}
use Rattle.xw_grid.specs.Puzzle.{PuzzleShown}
use Rattle.xw_files.specs.declared.kind.Kind.{Kind}
use Rattle.xw_files.specs.declared.kind.Kind.TheVariants.{Puz, Text}
use Rattle.xw_desk.specs.declared.failure.Failure.{Failure}
use Rattle.xw_desk.specs.declared.failure.Failure.TheVariants as failures
use Rattle.xw_desk.specs.declared.failure.ExitStatus.{ExitStatus}
use Rattle.xw_desk.specs.declared.failure.ExitStatus.TheVariants.{Accepted}
use Rattle.xw_desk.specs.Desk.{FailsToShow, Moment, Reports, Shows}
use Rattle.xw_desk.specs.Explained.{IsMessage}
use Rattle.xw_desk.specs.Files.{IsFound, IsUnread}
use Rattle.xw_desk.specs.ExitStatus.{code_of, status_of}

-- ---- one file

abbrev pub format_name : Kind → List ℕ
format_name Puz = codes "puz"
format_name Text = codes "text"

-- a format, a size and a number of lights on a line
abbrev pub size_line : List ℕ → ℕ → ℕ → ℕ → List ℕ
size_line format width height lights = format ++ codes " " ++ decimal width ++ codes "x" ++ decimal height ++ codes " " ++ decimal lights ++ codes " lights\n"

-- the line that describes a puzzle
abbrev pub described : Kind → Grid → List ℕ
described kind grid = size_line (format_name kind) grid.width grid.height (length (lights_of grid))

-- what precedes the description in the line of a file: its name, if it is one of several
abbrev pub line_start : Bool → List ℕ → List ℕ
line_start true name = name ++ codes ": "
line_start false name = []

-- the line of a file
abbrev pub line_of : Bool → List ℕ → Kind → PuzzleShown → List ℕ
line_of is_named name kind puzzle = line_start is_named name ++ described kind puzzle.grid

-- The file with this name was read, and the puzzle that its bytes mean is described in a line.
pub record IsChecked (is_named : Bool) (name : List ℕ) (old new : Moment) : Type 0 where
  pub kind : Kind
  pub puzzle : PuzzleShown
  pub mid : Moment
  pub found : IsFound name kind puzzle old mid
  pub shows : Shows (line_of is_named name kind puzzle) mid new

-- The file with this name was read. The line for its puzzle could not be allocated, or the output failed after a part
-- of it.
pub record IsNotShown (is_named : Bool) (name : List ℕ) (failure : Failure) (old new : Moment) : Type 0 where
  pub kind : Kind
  pub puzzle : PuzzleShown
  pub mid : Moment
  pub found : IsFound name kind puzzle old mid
  pub why : ((failure ≡ failures.Memory) × (new ≡ mid)) ⊎ ((failure ≡ failures.Output) × FailsToShow (line_of is_named name kind puzzle) mid new)

-- why a file is not checked
abbrev pub IsUnchecked : Bool → List ℕ → Failure → Moment → Moment → Type 0
IsUnchecked is_named name failure old new = IsUnread name failure old new ⊎ IsNotShown is_named name failure old new

-- ---- several files

-- the output or an allocation failed, which ends the call
abbrev pub ends_call : Failure → Bool
ends_call failures.Output = true
ends_call failures.Memory = true
ends_call failure = false

-- One of several files is not checked, and this is reported, with nothing else. The call goes on.
pub record IsToldUnchecked (name : List ℕ) (status : ExitStatus) (old new : Moment) : Type 0 where
  pub failure : Failure
  pub goes_on : ends_call failure ≡ false
  pub mid : Moment
  pub unread : IsUnread name failure old mid
  pub status_is : status ≡ status_of failure
  pub message : List ℕ
  pub is_message : IsMessage mid.explains failure message
  pub reports : Reports message mid new

-- One of several files is checked in its turn, with this status: its line has its name, or the failure is reported.
abbrev pub IsCheckedInTurn : List ℕ → ExitStatus → Moment → Moment → Type 0
IsCheckedInTurn name status old new = ((status ≡ Accepted) × IsChecked true name old new) ⊎ IsToldUnchecked name status old new

-- The files with these names are checked one after another, with these statuses.
abbrev pub AreChecked : List (List ℕ) → List ExitStatus → Moment → Moment → Type 0
AreChecked [] [] old new = new ≡ old
AreChecked (name ∷ names) (status ∷ statuses) old new = (mid : Moment) × IsCheckedInTurn name status old mid × AreChecked names statuses mid new
AreChecked names statuses old new = ⊥

-- the greater of two statuses
abbrev pub greater : ExitStatus → ExitStatus → ExitStatus
greater first second = if nat_lt (code_of first) (code_of second) then second else first

-- One of several files ends the call: it is not checked because the output or an allocation failed, or because the
-- message for its failure could not be allocated.
abbrev pub EndsCheck : List ℕ → Failure → Moment → Moment → Type 0
EndsCheck name failure old new =
    ((ends_call failure ≡ true) × IsUnchecked true name failure old new)
    ⊎ ((failure ≡ failures.Memory) × (untold : Failure) × IsUnread name untold old new)

-- The call ends at one of the files, and those before it are checked.
pub record IsUncheckedAmong (names : List (List ℕ)) (failure : Failure) (old new : Moment) : Type 0 where
  pub before : List (List ℕ)
  pub name : List ℕ
  pub after : List (List ℕ)
  pub are : names ≡ before ++ name ∷ after
  pub statuses : List ExitStatus
  pub mid : Moment
  pub checked : AreChecked before statuses old mid
  pub ends : EndsCheck name failure mid new

-- how several files are checked: the status is the greatest
abbrev pub AreAllChecked : List (List ℕ) → Result ExitStatus Failure → Moment → Moment → Type 0
AreAllChecked names (Ok status) old new = (statuses : List ExitStatus) × (status ≡ fold greater Accepted statuses) × AreChecked names statuses old new
AreAllChecked names (Err failure) old new = IsUncheckedAmong names failure old new

-- ---- a call

-- how the files with these names are checked: one file without its name, and several with their names
abbrev pub IsCheckOf : List (List ℕ) → Result ExitStatus Failure → Moment → Moment → Type 0
IsCheckOf (name ∷ []) (Ok status) old new = (status ≡ Accepted) × IsChecked false name old new
IsCheckOf (name ∷ []) (Err failure) old new = IsUnchecked false name failure old new
IsCheckOf names result old new = AreAllChecked names result old new
