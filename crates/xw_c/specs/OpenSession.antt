-- What the calls of an open session do.
use Rattle.std.specs.Prelude.{◌≡◌, ◌≢◌, ◌⊎◌, ℕ, Bool, List, [], ◌∷◌, ◌++◌, ◌==◌, codes, Result, Ok, Err, if◌then◌else◌}
use Rattle.xw_words.specs.WordList.{IsTooLong, listed_in}
use Rattle.xw_grid.specs.Puzzle.{PuzzleShown}
use Rattle.xw_files.specs.declared.fault.ReadFault.{ReadFault}
use Rattle.xw_files.specs.declared.fault.ReadFault.TheVariants as reads
use Rattle.xw_files.specs.declared.fault.WriteFault.TheVariants as writes
use Rattle.xw_files.specs.declared.kind.Kind.{Kind}
use Rattle.xw_journal.specs.File.{is_cut, kept_lines}
use Rattle.xw_lines.specs.declared.outcome.Step.{Step}
use Rattle.xw_session.specs.Answer.{Answers}
use Rattle.xw_session.specs.Record.{record_lines}
use Rattle.xw_session.specs.Resuming.{MayBeDone, Resumes, refused_line}
use Rattle.xw_session.specs.State.{SessionState}
use Rattle.xw_session.specs.declared.resuming.Stop.{Stop}
use Rattle.xw_session.specs.declared.resuming.Stop.TheVariants as stops
use Rattle.xw_files.specs.Formats.{HasFormat, IsFirstFault, IsRead, written_as}
use Rattle.xw_session.specs.Opening.{empty_puzzle, opened_on, puzzle_of}
use Rattle.xw_c.specs.Status.{step_status}
use Rattle.xw_c.specs.declared.status.Status.{Status}
use Rattle.xw_c.specs.declared.status.Status.TheVariants.{Accepted, Refused, Memory, NoCommand, Full, Unread, Unwritten, Cut}

-- a session and the answer to the last call
pub record Shown : Type 0 where
  pub state : SessionState
  pub answer : List ℕ

-- ---- opening

-- the puzzle that a session begins with: the empty one if there are no bytes, and otherwise the one that they are read
-- as
abbrev pub HasPuzzle : List ℕ → PuzzleShown → Type 0
HasPuzzle [] puzzle = puzzle ≡ empty_puzzle
HasPuzzle (byte ∷ bytes) puzzle = (kind : Kind) × IsRead kind (byte ∷ bytes) puzzle

-- a session begins with the words of the list, on the puzzle of the bytes
pub record IsOpened (list bytes : List ℕ) (opened : Shown) : Type 0 where
  pub puzzle : PuzzleShown
  pub has_puzzle : HasPuzzle bytes puzzle
  pub state : opened.state ≡ opened_on (listed_in list) puzzle
  pub answer : opened.answer ≡ []

-- the bytes have this first fault in their format
pub record IsMisread (bytes : List ℕ) (fault : ReadFault) : Type 0 where
  pub kind : Kind
  pub format : HasFormat bytes kind
  pub first : IsFirstFault kind bytes fault

-- why a session does not begin on the bytes: an allocation failed, or this is the first fault of the bytes, if there
-- are any
abbrev pub IsUnread : List ℕ → ReadFault → Type 0
IsUnread [] fault = fault ≡ reads.Memory
IsUnread (byte ∷ bytes) fault = (fault ≡ reads.Memory) ⊎ IsMisread (byte ∷ bytes) fault

-- why no session begins with this list and these bytes
abbrev pub IsUnopened : List ℕ → List ℕ → Status → Type 0
IsUnopened list bytes Full = IsTooLong (listed_in list)
IsUnopened list bytes (Unread fault) = IsUnread bytes fault
IsUnopened list bytes status = status ≡ Memory

-- ---- lines

-- The line is answered by the session, and the status is its outcome. If no allocation is left for the answer, there
-- is none, and the effect of the line remains.
abbrev pub IsLineDone : List ℕ → Shown → Status → Shown → Type 0
IsLineDone line old Memory new = MayBeDone old.state line new.state × (new.answer ≡ [])
IsLineDone line old status new = (step : Step) × (status ≡ step_status step) × Answers old.state line step new.answer new.state

-- ---- files

-- The answer is the puzzle in this format, or empty with the reason. The session stays.
abbrev pub IsFileAnswer : Kind → Shown → Status → List ℕ → Type 0
IsFileAnswer kind old Accepted answer = written_as kind (puzzle_of old.state) ≡ Ok answer
IsFileAnswer kind old (Unwritten fault) answer = (answer ≡ []) × (fault ≢ writes.Memory → written_as kind (puzzle_of old.state) ≡ Err fault)
IsFileAnswer kind old status answer = ⊥

abbrev pub IsFileMade : Kind → Shown → Status → Shown → Type 0
IsFileMade kind old status new = IsFileAnswer kind old status new.answer × (new.state ≡ old.state)

-- The answer is the record of the session, or empty if an allocation failed. The session stays.
abbrev pub IsRecordMade : Shown → Status → Shown → Type 0
IsRecordMade old status new =
    (((status ≡ Accepted) × (new.answer ≡ record_lines old.state)) ⊎ ((status ≡ Memory) × (new.answer ≡ []))) × (new.state ≡ old.state)

-- ---- records

-- the name of a record in the reports of its lines
abbrev pub record_name : List ℕ
record_name = codes "record"

-- the report of a record whose end was cut off
abbrev pub cut_line : List ℕ
cut_line = codes "xw: record: an incomplete last command is ignored\n"

abbrev pub cut_report : Bool → List ℕ
cut_report is_cut = if is_cut then cut_line else []

-- the status of a replay of a record, which may have been cut, in which this many lines were refused
abbrev pub replay_status : Bool → ℕ → Status
replay_status is_cut refused = if is_cut then Cut else if refused == 0 then Accepted else Refused

-- the status of a replay, and its answer: the reports, and a last one for a line that is not a command
abbrev pub IsReplayAnswer : Bool → Result ℕ Stop → List ℕ → Status → List ℕ → Type 0
IsReplayAnswer is_cut (Ok refused) told status answer = (status ≡ replay_status is_cut refused) × (answer ≡ told)
IsReplayAnswer is_cut (Err (stops.NoCommand number refusal)) told status answer = (status ≡ NoCommand) × (answer ≡ told ++ refused_line record_name number refusal)
IsReplayAnswer is_cut (Err stops.Memory) told status answer = ⊥

-- The lines of the record that count, as in a file of the program, are replayed, up to the first that is not a command.
-- The answer begins with a report if others were cut. If an allocation fails, the answer is empty, and the effect of
-- the lines that were executed remains.
abbrev pub IsResumed : List ℕ → Shown → Status → Shown → Type 0
IsResumed text old status new =
    (ended : Result ℕ Stop) × (told : List ℕ) × Resumes record_name old.state (kept_lines text) ended told new.state
    × (IsReplayAnswer (is_cut text) ended (cut_report (is_cut text) ++ told) status new.answer ⊎ ((status ≡ Memory) × (new.answer ≡ [])))
