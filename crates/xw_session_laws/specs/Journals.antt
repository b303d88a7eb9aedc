-- A session with a journal, and the laws of journals.
use Rattle.std.specs.Prelude.{◌≡◌, ◌⊎◌, ℕ, ◌<◌, Bool, true, not, List, [], ◌∷◌, ◌++◌, filter, All, Some, nat_eq}
use Rattle.xw_grid.specs.Grid.{IsGrid}
use Rattle.xw_lines.specs.declared.outcome.Step.{Step}
use Rattle.xw_lines.specs.declared.outcome.Step.TheVariants.{Refused}
use Rattle.xw_lines.specs.Cut.{lines_of, ended_lines, last_piece, AllHaveNoLf}
use Rattle.xw_lines.specs.Device.{flushed}
use Rattle.xw_lines.specs.Spoken.{Spoken, BreaksOff}
use Rattle.xw_lines.specs.declared.outcome.RunEnd.{RunEnd}
use Rattle.xw_lines.specs.declared.outcome.RunEnd.TheVariants.{Done, ReadFailed, WriteFailed, Stopped, Endless, Memory}
use Rattle.xw_lines.specs.Run.{StopsIn, IsRun}
use Rattle.xw_commands.specs.Command.{command_of}
use Rattle.xw_session.specs.Answer.{Answers}
use Rattle.xw_session.specs.State.{SessionState}
use Rattle.xw_journal.specs.File.{first_line, is_part, kept_lines}
use Rattle.xw_journal.specs.Group.{complete}
use Rattle.xw_journal.specs.Journal.{journal_text, JournaledState, AnswersJournaled, StopsAtJournal}
use Rattle.xw_session_laws.specs.Replay.{replayed_lines, WantsMemory}

-- Starting in `start`, a session may answer these lines, each accepted, refused or silent, with these bytes in its journal, and ends in
-- `end`.
abbrev pub IsJournaled : SessionState → List (List ℕ) → List ℕ → SessionState → Type 0
IsJournaled start [] bytes end = (bytes ≡ []) × (end ≡ start)
IsJournaled start (line ∷ lines) bytes end =
    (outcome : Step) × (answer : List ℕ) × (mid : SessionState) × (others : List ℕ)
    × Answers start line outcome answer mid × IsJournaled mid lines others end
    × (bytes ≡ journal_text start.engine.grid line outcome mid.engine.grid ++ others)

-- the lines of a journal, executed in the state where the session started, are all accepted and leave the state where it ended
abbrev pub JournalsMakeSessionsAgain : Type 0
JournalsMakeSessionsAgain =
    (start end : SessionState) (lines : List (List ℕ)) (bytes : List ℕ) → IsGrid start.engine.grid → AllHaveNoLf lines → IsJournaled start lines bytes end
    → replayed_lines start (lines_of bytes) ≡ Some end

-- every line of a journal ends with an LF
abbrev pub JournalsHaveWholeLines : Type 0
JournalsHaveWholeLines =
    (start end : SessionState) (lines : List (List ℕ)) (bytes : List ℕ) → IsGrid start.engine.grid → AllHaveNoLf lines → IsJournaled start lines bytes end
    → last_piece bytes ≡ []

-- ---- the same laws for the answers of a session

-- a session that starts in the same state and accepts every line of a journal ends in the same state
abbrev pub AnsweredJournalsMakeSessionsAgain : Type 0
AnsweredJournalsMakeSessionsAgain =
    (start end last : SessionState) (lines : List (List ℕ)) (bytes out : List ℕ) → IsGrid start.engine.grid → AllHaveNoLf lines → IsJournaled start lines bytes end
    → Spoken Answers start (lines_of bytes) out 0 last → last ≡ end

-- the first line of a journal that a session refuses, if any, is refused for a failed allocation
abbrev pub JournalsAreRefusedForMemoryOnly : Type 0
JournalsAreRefusedForMemoryOnly =
    (start end mid last : SessionState) (lines front rest : List (List ℕ)) (line bytes out answer : List ℕ) → IsGrid start.engine.grid → AllHaveNoLf lines → IsJournaled start lines bytes end
    → lines_of bytes ≡ front ++ line ∷ rest → Spoken Answers start front out 0 mid → Answers mid line Refused answer last
    → WantsMemory mid (command_of line) answer

-- ---- a part of a journal

-- A journal of `lines` in two parts: that of the lines `done`, and that of the others.
pub record IsParted (start : SessionState) (lines : List (List ℕ)) (journal : List ℕ) (end : SessionState) : Type 0 where
  pub done : List (List ℕ)
  pub others : List (List ℕ)
  pub of_lines : lines ≡ done ++ others
  pub bytes : List ℕ
  pub rest : List ℕ
  pub of_journal : journal ≡ bytes ++ rest
  pub mid : SessionState
  pub so_far : IsJournaled start done bytes mid
  pub further : IsJournaled mid others rest end

-- `first` are the first lines of a journal of `lines`: those of some of the given lines, each with all that it wrote.
pub record AreFirstLines (start : SessionState) (lines : List (List ℕ)) (journal : List ℕ) (end : SessionState) (first : List (List ℕ)) : Type 0 where
  -- the lines of the journal begin with them
  pub begins : (more : List (List ℕ)) × (lines_of journal ≡ first ++ more)
  -- they are the lines of the first part of the journal
  pub parts : IsParted start lines journal end
  pub are : first ≡ lines_of parts.bytes
  -- they leave the state after that part
  pub again : replayed_lines start first ≡ Some parts.mid

-- Of any first bytes of a journal, the lines that count are its first lines: each command that was journaled is there with all that it
-- wrote, or not at all, also a search.
abbrev pub JournalsAreCutAtLines : Type 0
JournalsAreCutAtLines =
    (start end : SessionState) (lines : List (List ℕ)) (journal front rest : List ℕ) → IsGrid start.engine.grid → AllHaveNoLf lines → IsJournaled start lines journal end
    → journal ≡ front ++ rest → AreFirstLines start lines journal end (complete (ended_lines front))

-- The lines of a file that count leave the state after some first lines of a journal.
pub record KeepsFirstLines (start : SessionState) (lines : List (List ℕ)) (journal : List ℕ) (end : SessionState) (file : List ℕ) : Type 0 where
  pub first : List (List ℕ)
  pub are : AreFirstLines start lines journal end first
  pub again : replayed_lines start (kept_lines file) ≡ Some are.parts.mid

-- The first bytes of the file of a journal have a part of its first line only, or keep the first lines of the journal.
abbrev pub JournalFilesAreCutAtLines : Type 0
JournalFilesAreCutAtLines =
    (start end : SessionState) (lines : List (List ℕ)) (journal front rest : List ℕ) → IsGrid start.engine.grid → AllHaveNoLf lines → IsJournaled start lines journal end
    → first_line ++ journal ≡ front ++ rest → (is_part front ≡ true) ⊎ KeepsFirstLines start lines journal end front

-- ---- the journal of a run

-- what was written, without the marks of flushes
abbrev pub without_flushes : List ℕ → List ℕ
without_flushes written = filter (λ byte. not (nat_eq byte flushed)) written

abbrev pub AreBytes : List ℕ → Type 0
AreBytes text = All (λ byte. byte < 256) text

-- a journal of these lines was written between two moments
pub record HasJournaled (start : JournaledState) (lines : List (List ℕ)) (end : JournaledState) : Type 0 where
  pub bytes : List ℕ
  pub journaled : IsJournaled start.state lines bytes end.state
  pub written : without_flushes end.journal ≡ without_flushes start.journal ++ bytes

-- a run that answered these lines wrote their journal
abbrev pub RunsAreJournaled : Type 0
RunsAreJournaled =
    (start end : JournaledState) (lines : List (List ℕ)) (out : List ℕ) (refused : ℕ) → IsGrid start.state.engine.grid → All AreBytes lines
    → Spoken AnswersJournaled start lines out refused end → HasJournaled start lines end

-- some first bytes of a journal of these lines were written between two moments
pub record HasBegunJournal (start : JournaledState) (lines : List (List ℕ)) (end : JournaledState) : Type 0 where
  pub bytes : List ℕ
  pub journaled : IsJournaled start.state lines bytes end.state
  pub front : List ℕ
  pub rest : List ℕ
  pub parts : bytes ≡ front ++ rest
  pub written : without_flushes end.journal ≡ without_flushes start.journal ++ front

-- If the writer failed, the journal is that of the lines up to the one whose answer was not finished, and has its whole text.
abbrev pub BrokenRunsAreJournaled : Type 0
BrokenRunsAreJournaled =
    (start end : JournaledState) (text begun transcript : List ℕ) → IsGrid start.state.engine.grid → AreBytes text
    → StopsIn AnswersJournaled (BreaksOff AnswersJournaled) start text end begun transcript
    → (lines : List (List ℕ)) × (others : List (List ℕ)) × (lines_of text ≡ lines ++ others) × HasJournaled start lines end

-- If the session stopped, first bytes of the journal of the lines up to the one where it stopped were written.
abbrev pub StoppedRunsAreJournaled : Type 0
StoppedRunsAreJournaled =
    (start end : JournaledState) (text begun transcript : List ℕ) → IsGrid start.state.engine.grid → AreBytes text
    → StopsIn AnswersJournaled StopsAtJournal start text end begun transcript
    → (lines : List (List ℕ)) × (others : List (List ℕ)) × (lines_of text ≡ lines ++ others) × HasBegunJournal start lines end

-- ---- a journal that was empty at the start

-- its lines, executed in the state where the session started, are all accepted and leave the state where the session ended
abbrev pub JournaledRunsAreMadeAgain : Type 0
JournaledRunsAreMadeAgain =
    (start end : JournaledState) (lines : List (List ℕ)) → IsGrid start.state.engine.grid → AllHaveNoLf lines → without_flushes start.journal ≡ []
    → HasJournaled start lines end → replayed_lines start.state (lines_of (without_flushes end.journal)) ≡ Some end.state

-- its lines that count are the first lines of such a journal
abbrev pub BegunJournalsAreMadeAgain : Type 0
BegunJournalsAreMadeAgain =
    (start end : JournaledState) (lines : List (List ℕ)) → IsGrid start.state.engine.grid → AllHaveNoLf lines → without_flushes start.journal ≡ []
    → (begun : HasBegunJournal start lines end) → AreFirstLines start.state lines begun.bytes end.state (complete (ended_lines (without_flushes end.journal)))

-- the lines of a text have no LF, and only bytes of the text
abbrev pub LinesArePlain : Type 0
LinesArePlain = (text : List ℕ) → AreBytes text → AllHaveNoLf (lines_of text) × All AreBytes (lines_of text) × All AreBytes (ended_lines text)

-- ---- a whole run

-- a fact that holds unless the session stopped
abbrev pub UnlessStopped : RunEnd → Type 0 → Type 0
UnlessStopped (Done refused) P = P
UnlessStopped ReadFailed P = P
UnlessStopped WriteFailed P = P
UnlessStopped Stopped P = Unit {0}
UnlessStopped Endless P = P
UnlessStopped Memory P = P

-- What a run left in a journal that was empty before it. `text` was read, and the session ended in the state after `lines` of it. Unless
-- it stopped, it holds the journal of these lines, whose lines lead to that state. In any case its lines that count are first lines
-- of that journal.
pub record LeavesJournal {R : Type 0} (read : R → List ℕ) (result : RunEnd) (start end : JournaledState) (source source' : R) : Type 0 where
  pub text : List ℕ
  pub was_read : read source' ≡ read source ++ text
  pub lines : List (List ℕ)
  pub others : List (List ℕ)
  pub of_text : lines_of text ≡ lines ++ others
  pub bytes : List ℕ
  pub journaled : IsJournaled start.state lines bytes end.state
  pub whole : UnlessStopped result (without_flushes end.journal ≡ bytes)
  pub again : UnlessStopped result (replayed_lines start.state (lines_of (without_flushes end.journal)) ≡ Some end.state)
  pub first : AreFirstLines start.state lines bytes end.state (complete (ended_lines (without_flushes end.journal)))

-- every run with an empty journal does so, however it ends
abbrev pub RunsLeaveJournals : {R W : Type 0} → (R → List ℕ) → (R → Bool) → (R → ℕ) → (W → List ℕ) → (W → ℕ) → Type 0
RunsLeaveJournals {R} {W} read is_at_end read_failures written write_failures =
    (result : RunEnd) (start end : JournaledState) (source source' : R) (sink sink' : W) → IsGrid start.state.engine.grid → AreBytes (read source')
    → without_flushes start.journal ≡ []
    → IsRun AnswersJournaled StopsAtJournal read is_at_end read_failures written write_failures result start end source source' sink sink'
    → LeavesJournal read result start end source source'
