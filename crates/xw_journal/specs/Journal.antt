-- What a journal holds of a session: lines that replay its changes.
use Rattle.std.specs.Prelude.{◌≡◌, ℕ, Bool, true, false, nat_eq, List, [], ◌∷◌, ◌++◌, map, flat_map, Option, Some, None, Result, Ok, if◌then◌else◌}
use Rattle.xw_grid.specs.declared.cell.Cell.{Cell}
use Rattle.xw_grid.specs.Grid.{Grid, cells, entry}
use Rattle.xw_lines.specs.Cut.{held}
use Rattle.xw_lines.specs.Device.{Begins, HasFailed, flushed}
use Rattle.xw_lines.specs.declared.outcome.Step.{Step}
use Rattle.xw_lines.specs.declared.outcome.Step.TheVariants.{Accepted, Silent}
use Rattle.xw_commands.specs.Command.{command_of}
use Rattle.xw_commands.specs.declared.command.Command.{Command}
use Rattle.xw_commands.specs.declared.command.Command.TheVariants as commands
use Rattle.xw_commands.specs.declared.command.SyntaxFault.{SyntaxFault}
use Rattle.xw_commands.specs.declared.change.Change.{Change}
use Rattle.xw_session.specs.Answer.{Answers}
use Rattle.xw_answers.specs.Record.{letter_commands}
use Rattle.xw_session.specs.State.{SessionState}
use Rattle.xw_session.specs.Resuming.{MayBeDone}
use Rattle.xw_journal.specs.Group.{grouped}
use Rattle.xw_journal.specs.declared.journal.Written.{Written}
use Rattle.xw_journal.specs.declared.journal.Written.TheVariants.{Nothing, Line, Letters}
use Rattle.xw_journal.specs.declared.cause.Cause.{Cause}
use Rattle.xw_journal.specs.declared.cause.Cause.TheVariants.{Journal, Memory}

-- ---- the letters that a search entered

abbrev pub is_same_entry : Option ℕ → Option ℕ → Bool
is_same_entry None None = true
is_same_entry (Some letter) (Some other) = nat_eq letter other
is_same_entry one other = false

-- the command that enters the letter of a cell, if the cell had another entry before
abbrev pub entered_at : Grid → Grid → Cell → List Change
entered_at before after cell = if is_same_entry (entry before cell) (entry after cell) then [] else letter_commands cell (entry after cell)

-- the letters that are new in a grid, in reading order, as commands
abbrev pub entered_commands : Grid → Grid → List Change
entered_commands before after = flat_map (entered_at before after) (cells after)

-- the entries of all cells in reading order
abbrev pub entries_of : Grid → List (Option ℕ)
entries_of grid = map (entry grid) (cells grid)

-- these are the entries of an earlier grid of the same size
pub record HasEntriesBefore (before after : Grid) (entries : List (Option ℕ)) : Type 0 where
  pub entries-are : entries ≡ entries_of before
  pub width : before.width ≡ after.width
  pub height : before.height ≡ after.height

-- ---- what is written to the journal

-- what is written of a parsed line, if it is accepted
abbrev pub written_of : Result (Option Command) SyntaxFault → Written
written_of (Ok (Some (commands.Change change))) = Line
written_of (Ok (Some (commands.Search search))) = Letters
written_of other = Nothing

-- the text that replays the change: each line ends with an LF
abbrev pub text_of : Written → List ℕ → Grid → Grid → List ℕ
text_of Nothing line before after = []
text_of Line line before after = line ++ 10 ∷ []
text_of Letters line before after = grouped (entered_commands before after)

-- the text for a line, from the grids before and after it: empty unless the line was accepted and changes the session
abbrev pub journal_text : Grid → List ℕ → Step → Grid → List ℕ
journal_text before line Accepted after = text_of (written_of (command_of line)) line before after
journal_text before line other after = []

-- a text as the journal takes it: each change, and each search, ends with a flush
abbrev pub taken : Written → List ℕ → List ℕ
taken Nothing text = []
taken Line text = text ++ flushed ∷ []
taken Letters text = text ++ flushed ∷ []

-- the entries that were kept before a search are those of an earlier grid
abbrev pub WereKept : Written → Grid → Grid → List (Option ℕ) → Type 0
WereKept written before after entries = written ≡ Letters → HasEntriesBefore before after entries

-- the text with its flush
abbrev pub events_of : Written → List ℕ → Grid → Grid → List ℕ
events_of written line before after = taken written (text_of written line before after)

-- the text for a line with its flush
abbrev pub journal_events : Grid → List ℕ → Step → Grid → List ℕ
journal_events before line Accepted after = events_of (written_of (command_of line)) line before after
journal_events before line other after = []

-- ---- a session with its journal

-- The state of the session, what was written to the journal, how often a write to it failed, and why the session
-- stopped, if it did.
pub record JournaledState : Type 0 where
  pub state : SessionState
  pub journal : List ℕ
  pub failures : ℕ
  pub cause : Option Cause

-- The line may get this answer, and its text is in the journal.
pub record AnswersJournaled (old : JournaledState) (line : List ℕ) (step : Step) (answer : List ℕ) (new : JournaledState) : Type 0 where
  pub answers : Answers old.state line step answer new.state
  pub journal : new.journal ≡ old.journal ++ journal_events old.state.engine.grid line step new.state.engine.grid
  pub quiet : new.failures ≡ old.failures
  pub going : new.cause ≡ old.cause

-- the line was accepted, the journal failed, and a prefix of the line's text is in it
pub record IsUnjournaled (old : JournaledState) (line : List ℕ) (new : JournaledState) : Type 0 where
  pub answer : List ℕ
  pub answers : Answers old.state line Accepted answer new.state
  pub journal : Begins old.journal new.journal (journal_events old.state.engine.grid line Accepted new.state.engine.grid)
  pub failed : HasFailed old.failures new.failures

-- the answer of the line could not be kept in memory, and the journal is as it was
pub record IsUnkept (old : JournaledState) (line : List ℕ) (new : JournaledState) : Type 0 where
  pub done : MayBeDone old.state line new.state
  pub journal : new.journal ≡ old.journal
  pub quiet : new.failures ≡ old.failures

-- why a session with a journal stops at a line
abbrev pub IsCause : Cause → JournaledState → List ℕ → JournaledState → Type 0
IsCause Journal old line new = IsUnjournaled old line new
IsCause Memory old line new = IsUnkept old line new

-- The session stopped at the line, of whose answer nothing was written. The effect of the line remains.
pub record StopsAtJournal (old : JournaledState) (line : List ℕ) (new : JournaledState) (told_old told_new : List ℕ) : Type 0 where
  pub told : told_new ≡ told_old
  pub cause : Cause
  pub is : new.cause ≡ Some cause
  pub why : IsCause cause old line new

-- ---- a line in parts

abbrev pub journaled_state : SessionState → List ℕ → ℕ → Option Cause → JournaledState
journaled_state state journal failures cause = record { state = state; journal = journal; failures = failures; cause = cause }

-- The buffered line was executed, its text is in the journal, and this is its answer.
pub record IsExecuted (old : JournaledState) (piece : Option (List ℕ)) (step : Step) (answer : List ℕ) (new : JournaledState) : Type 0 where
  pub fits : (line : List ℕ) → held line ≡ piece → AnswersJournaled old line step answer new
  pub silent : step ≡ Silent → answer ≡ []

-- The session stops at the buffered line for this cause.
abbrev pub IsHalted : JournaledState → Option (List ℕ) → Cause → JournaledState → Type 0
IsHalted old piece cause new = (line : List ℕ) → held line ≡ piece → IsCause cause old line new
