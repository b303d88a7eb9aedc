-- The commands that a session resumes: what is read, what is reported, and which failure ends it; and its record.
use Rattle.std.specs.Prelude.{◌≡◌, ◌⊎◌, ◌++◌, ℕ, List, Result, Ok, Err, if◌then◌else◌}
use Rattle.xw_words.specs.WordList.{without_mark}
use Rattle.xw_journal.specs.File.{first_line, has_first_line, is_cut, kept_lines}
use Rattle.xw_session.specs.Record.{record_lines}
use Rattle.xw_session.specs.Resuming.{Resumes}
use Rattle.xw_session.specs.State.{SessionState}
use Rattle.xw_answers.specs.Text.{name_of}
use Rattle.xw_session.specs.declared.resuming.Stop.{Stop}
use Rattle.xw_session.specs.declared.resuming.Stop.TheVariants as stops
use Rattle.xw_cli.specs.declared.session_files.Refusals.{Refusals}
use Rattle.xw_desk.specs.declared.failure.Failure.{Failure}
use Rattle.xw_desk.specs.declared.failure.Failure.TheVariants as failures
use Rattle.xw_disk.specs.Disk.{read}
use Rattle.xw_desk.specs.Desk.{Asks, Moment, Reports, ReportsIf}
use Rattle.xw_desk.specs.Files.{IsLineFault, IsUnreadFile}
use Rattle.xw_cli_files.specs.ReplayReports.{cut_line, explained_reports}

-- ---- the commands to resume

-- the bytes of a file without a byte order mark before the first line of a session
abbrev pub unmarked : List ℕ → List ℕ
unmarked bytes = if has_first_line (without_mark bytes) then without_mark bytes else bytes

-- the failure says at which line of this file the replay stopped, and why; or an allocation failed
abbrev pub IsStopped : List ℕ → Stop → Failure → Type 0
IsStopped name (stops.NoCommand number refusal) failure = (failure ≡ failures.Memory) ⊎ IsLineFault name number (name_of refusal) failure
IsStopped name stops.Memory failure = failure ≡ failures.Memory

-- This number of lines was refused.
abbrev pub AreRefused : ℕ → Refusals → Type 0
AreRefused count refused = refused.count ≡ count

-- the refused lines of a replay, or the failure of one that stopped
abbrev pub IsReplayed : List ℕ → Result ℕ Stop → Result Refusals Failure → Type 0
IsReplayed name (Ok count) (Ok refused) = AreRefused count refused
IsReplayed name (Ok count) (Err failure) = ⊥
IsReplayed name (Err stop) (Ok refused) = ⊥
IsReplayed name (Err stop) (Err failure) = IsStopped name stop failure

-- The reports of a replay are written, with its result; or they could not be allocated, and none is written. `lost` is
-- the number of those that were not allocated.
abbrev pub TellsReplay : List ℕ → ℕ → List ℕ → Result ℕ Stop → Result Refusals Failure → Moment → Moment → Type 0
TellsReplay name lost told ended result old new =
    ((lost ≡ 0) × Reports (explained_reports old.explains told) old new × IsReplayed name ended result) ⊎ ((result ≡ Err failures.Memory) × (new ≡ old))

-- These lines are replayed from the first state, up to the first that is no command: the result, the state that is
-- left and the reports of refused lines are those of the replay. Or the reports could not be allocated, and none is
-- written.
abbrev pub Replays : List ℕ → List (List ℕ) → SessionState → SessionState → Result Refusals Failure → Moment → Moment → Type 0
Replays name lines start left result old new =
    ((ended : Result ℕ Stop) × (told : List ℕ) × Resumes name start lines ended told left × Reports (explained_reports old.explains told) old new × IsReplayed name ended result)
    ⊎ ((result ≡ Err failures.Memory) × (new ≡ old))

-- The file with this name was read, and the lines of its bytes that count are replayed, after a report exactly if others
-- were cut.
pub record IsReplay (name : List ℕ) (start left : SessionState) (result : Result Refusals Failure) (old new : Moment) : Type 0 where
  pub bytes : List ℕ
  pub read_at : Moment
  pub asks : Asks (read name (Ok bytes)) old read_at
  pub mid : Moment
  pub cut : ReportsIf (is_cut (unmarked bytes)) (cut_line name) read_at mid
  pub replays : Replays name (kept_lines (unmarked bytes)) start left result mid new

-- The file with this name was read, and the report that lines were cut could not be allocated.
pub record IsUntold (name : List ℕ) (start left : SessionState) (result : Result Refusals Failure) (old new : Moment) : Type 0 where
  pub bytes : List ℕ
  pub asks : Asks (read name (Ok bytes)) old new
  pub memory : result ≡ Err failures.Memory
  pub state : left ≡ start

-- The file with this name was not read, and nothing else happened.
pub record IsNotRead (name : List ℕ) (start left : SessionState) (result : Result Refusals Failure) (old new : Moment) : Type 0 where
  pub failure : Failure
  pub failed : result ≡ Err failure
  pub why : IsUnreadFile name failure old new
  pub state : left ≡ start

-- what resuming the file with this name does
abbrev pub IsResumed : List ℕ → SessionState → SessionState → Result Refusals Failure → Moment → Moment → Type 0
IsResumed name start left result old new = IsReplay name start left result old new ⊎ (IsUntold name start left result old new ⊎ IsNotRead name start left result old new)

-- ---- the record

-- the file of a session in this state: the first line and the record
abbrev pub file_of : SessionState → List ℕ
file_of state = first_line ++ record_lines state
