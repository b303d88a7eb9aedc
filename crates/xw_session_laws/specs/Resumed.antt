-- What `resume` of `xw_session` makes of lines that can all be executed, and of the lines of a record or a journal.
use Rattle.std.specs.Prelude.{◌≡◌, ℕ, List, [], Some, Result, Ok, Err}
use Rattle.xw_grid.specs.Grid.{IsGrid}
use Rattle.xw_words.specs.Dictionary.{Dictionary}
use Rattle.xw_lines.specs.Cut.{lines_of, AllHaveNoLf}
use Rattle.xw_session.specs.declared.resuming.Stop.{Stop}
use Rattle.xw_session.specs.declared.resuming.Stop.TheVariants.{NoCommand, Memory}
use Rattle.xw_session.specs.Record.{record_lines}
use Rattle.xw_session.specs.Resuming.{Resumes}
use Rattle.xw_session.specs.State.{SessionState}
use Rattle.xw_session_laws.specs.Replay.{BeganWith, replayed_lines}
use Rattle.xw_session_laws.specs.Journals.{IsJournaled}

-- No line was refused, and the session is in this state; or an allocation failed. In both cases nothing was reported.
abbrev pub IsRebuilt : SessionState → Result ℕ Stop → List ℕ → SessionState → Type 0
IsRebuilt whole (Ok refused) told left = (refused ≡ 0) × (told ≡ []) × (left ≡ whole)
IsRebuilt whole (Err Memory) told left = told ≡ []
IsRebuilt whole (Err (NoCommand number refusal)) told left = ⊥

-- lines that can all be executed leave the same state when they are resumed
abbrev pub LinesAreResumed : Type 0
LinesAreResumed =
    (name told : List ℕ) (start whole left : SessionState) (lines : List (List ℕ)) (result : Result ℕ Stop) → replayed_lines start lines ≡ Some whole
    → Resumes name start lines result told left → IsRebuilt whole result told left

-- a record that is resumed in a session with the same words at the start rebuilds the recorded state
abbrev pub RecordsAreResumed : Type 0
RecordsAreResumed =
    (words : Dictionary) (made start left : SessionState) (name told : List ℕ) (result : Result ℕ Stop) → BeganWith words made → start.engine.words ≡ words
    → Resumes name start (lines_of (record_lines made)) result told left → IsRebuilt (record made { begun = start.begun }) result told left

-- a journal that is resumed in the state where its session started leaves the state where that session ended
abbrev pub JournalsAreResumed : Type 0
JournalsAreResumed =
    (start end left : SessionState) (lines : List (List ℕ)) (bytes name told : List ℕ) (result : Result ℕ Stop) → IsGrid start.engine.grid → AllHaveNoLf lines
    → IsJournaled start lines bytes end → Resumes name start (lines_of bytes) result told left → IsRebuilt end result told left
