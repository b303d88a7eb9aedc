-- Replaying lines: their answers are not written, and refused lines are reported.
use Rattle.std.specs.Prelude.{◌≡◌, ◌≢◌, ◌⊎◌, ℕ, ◌+◌, Bool, true, false, List, [], ◌∷◌, ◌++◌, codes, decimal, length, Option, Some, None, Result, Ok, Err, is_some, if◌then◌else◌}
use Rattle.xw_words.specs.declared.fault.WordFault.TheVariants as words
use Rattle.xw_grid.specs.declared.fault.GridFault.TheVariants as grids
use Rattle.xw_lines.specs.Device.{HasFailed}
use Rattle.xw_lines.specs.declared.outcome.Step.{Step}
use Rattle.xw_lines.specs.declared.outcome.Step.TheVariants.{Refused}
use Rattle.xw_commands.specs.Command.{command_of}
use Rattle.xw_commands.specs.declared.command.Command.{Command}
use Rattle.xw_commands.specs.declared.command.Command.TheVariants as commands
use Rattle.xw_commands.specs.declared.change.Change.TheVariants as changes
use Rattle.xw_commands.specs.declared.command.SyntaxFault.{SyntaxFault}
use Rattle.xw_answers.specs.declared.refusal.CommandRefusal.{CommandRefusal}
use Rattle.xw_answers.specs.declared.refusal.CommandRefusal.TheVariants as refusals
use Rattle.xw_feas.specs.declared.edit.Refusal.TheVariants as edits
use Rattle.xw_session.specs.declared.resuming.Stop.{Stop}
use Rattle.xw_session.specs.declared.resuming.Stop.TheVariants.{NoCommand, Memory}
use Rattle.xw_session.specs.Answer.{Answers}
use Rattle.xw_answers.specs.Escape.{text_spelled}
use Rattle.xw_session.specs.State.{SessionState}
use Rattle.xw_answers.specs.Text.{name_of, refused, word_line}

-- ---- lines that are not commands

-- why a parsed line is still not a command: the text of `text` or `more` has a wrong escape
abbrev pub command_fault : Option Command → Option CommandRefusal
command_fault (Some (commands.Change (changes.Put putting field spelling))) = if is_some (text_spelled spelling) then None else Some refusals.Escape
command_fault other = None

abbrev pub parsed_fault : Result (Option Command) SyntaxFault → Option CommandRefusal
parsed_fault (Ok command) = command_fault command
parsed_fault (Err fault) = Some (refusals.Syntax fault)

-- why a line is not a command in any session, or None if it is one
abbrev pub line_fault : List ℕ → Option CommandRefusal
line_fault line = parsed_fault (command_of line)

-- ---- a command

abbrev pub is_memory : CommandRefusal → Bool
is_memory (refusals.Engine (edits.Word words.Memory)) = true
is_memory (refusals.Engine (edits.Grid grids.Memory)) = true
is_memory other = false

-- In a state the line may be executed and leave this state. It is refused for this reason, which is not a failed
-- allocation, or, if None, not refused.
abbrev pub IsDone : SessionState → List ℕ → Option CommandRefusal → SessionState → Type 0
IsDone state line None after = (line_fault line ≡ None) × (step : Step) × (answer : List ℕ) × Answers state line step answer after × (step ≢ Refused)
IsDone state line (Some refusal) after = (line_fault line ≡ None) × Answers state line Refused (refused refusal) after × (is_memory refusal ≡ false)

-- in a state the line may be executed and leave this state, whatever its answer
abbrev pub MayBeDone : SessionState → List ℕ → SessionState → Type 0
MayBeDone state line after = (step : Step) × (answer : List ℕ) × Answers state line step answer after

-- ---- reports

abbrev pub count : Option CommandRefusal → ℕ
count None = 0
count (Some refusal) = 1

-- the report of a refused line: its number and the name of the refusal
abbrev pub refused_line : List ℕ → ℕ → CommandRefusal → List ℕ
refused_line file number refusal = codes "xw: " ++ file ++ codes ": line " ++ decimal number ++ codes ": " ++ word_line (name_of refusal)

abbrev pub told_of : List ℕ → ℕ → Option CommandRefusal → List ℕ
told_of file number None = []
told_of file number (Some refusal) = refused_line file number refusal

-- The text was written and no write failed, or a write failed. The first two arguments are the writer's transcript and
-- its count of failures.
abbrev pub Tells : {S : Type 0} → (S → List ℕ) → (S → ℕ) → S → S → List ℕ → Type 0
Tells transcript failures old new text = ((transcript new ≡ transcript old ++ text) × (failures new ≡ failures old)) ⊎ HasFailed (failures old) (failures new)

-- What the line with this number reports was appended, if it ended in this way: `refused` is 1 if it was refused, not for
-- a failed allocation, and otherwise 0.
abbrev pub IsNoted : List ℕ → ℕ → Result (Unit {0}) CommandRefusal → ℕ → List ℕ → List ℕ → Type 0
IsNoted file number (Ok done) refused old new = (refused ≡ 0) × (new ≡ old)
IsNoted file number (Err refusal) refused old new = (is_memory refusal ≡ false) × (refused ≡ 1) × (new ≡ old ++ refused_line file number refusal)

-- the line with this number was executed, and what it reports was appended: `refused` is 1 if it was refused, and
-- otherwise 0
pub record IsDrawn (file : List ℕ) (number : ℕ) (state : SessionState) (line : List ℕ) (refused : ℕ) (after : SessionState) (old new : List ℕ) : Type 0 where
  pub refusal : Option CommandRefusal
  pub done : IsDone state line refusal after
  pub counted : refused ≡ count refusal
  pub told : new ≡ old ++ told_of file number refusal

-- How the replay of one line ends. `Ok`: the line was executed, and its report appended if it was refused. `NoCommand`:
-- it is not a command, and nothing was done. `Memory`: an allocation failed, and the line may have been executed.
abbrev pub ResumesLine : List ℕ → ℕ → SessionState → List ℕ → Result ℕ Stop → SessionState → List ℕ → List ℕ → Type 0
ResumesLine file number state line (Ok refused) after old new = IsDrawn file number state line refused after old new
ResumesLine file number state line (Err (NoCommand told refusal)) after old new = (told ≡ number) × (line_fault line ≡ Some refusal) × (after ≡ state)
ResumesLine file number state line (Err Memory) after old new = (line_fault line ≡ None) × MayBeDone state line after

-- ---- all lines

-- These lines may be executed one after another, with these reports of refused lines, this number of them, and this
-- state at the end. All lines are commands, and the first has this line number.
abbrev pub AreDone : List ℕ → ℕ → SessionState → List (List ℕ) → List ℕ → ℕ → SessionState → Type 0
AreDone file number start [] transcript refused end = (transcript ≡ []) × (refused ≡ 0) × (end ≡ start)
AreDone file number start (line ∷ lines) transcript refused end =
    (refusal : Option CommandRefusal) × (mid : SessionState) × (others : List ℕ) × (more : ℕ)
    × IsDone start line refusal mid × AreDone file (number + 1) mid lines others more end
    × (transcript ≡ told_of file number refusal ++ others) × (refused ≡ count refusal + more)

-- the line with this number is reached: all lines before it are commands, and were executed
pub record IsReached (file : List ℕ) (start : SessionState) (lines : List (List ℕ)) (transcript : List ℕ) (state : SessionState) (line : List ℕ) (number : ℕ) : Type 0 where
  pub before : List (List ℕ)
  pub after : List (List ℕ)
  pub refused : ℕ
  pub parts : lines ≡ before ++ line ∷ after
  pub numbered : number ≡ length before + 1
  pub done : AreDone file 1 start before transcript refused state

-- How a replay ends, what it reports, and the state that it leaves. `Ok`: all lines are commands and were executed.
-- `NoCommand`: the lines before the first that is not a command were executed. `Memory`: an allocation failed for a
-- line, which may have been executed.
abbrev pub Resumes : List ℕ → SessionState → List (List ℕ) → Result ℕ Stop → List ℕ → SessionState → Type 0
Resumes file start lines (Ok refused) transcript end = AreDone file 1 start lines transcript refused end
Resumes file start lines (Err (NoCommand number refusal)) transcript end =
    (line : List ℕ) × (line_fault line ≡ Some refusal) × IsReached file start lines transcript end line number
Resumes file start lines (Err Memory) transcript end =
    (number : ℕ) × (line : List ℕ) × (state : SessionState) × (line_fault line ≡ None) × IsReached file start lines transcript state line number × MayBeDone state line end
