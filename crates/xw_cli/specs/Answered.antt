-- How the input of a call is answered.
use Rattle.std.specs.Prelude.{◌≡◌, ◌≢◌, ◌⊎◌, ℕ, ◌-◌, ◌^◌, ◌≤◌, IsTrue, List, [], ◌++◌, length, Option, Some, None}
use Rattle.xw_lines.specs.Cut.{ended_lines, last_piece, lines_of}
use Rattle.xw_lines.specs.Device.{HasFailed, saturated}
use Rattle.xw_lines.specs.Run.{Speaks, StopsIn}
use Rattle.xw_lines.specs.Spoken.{BreaksOff}
use Rattle.xw_lines.specs.declared.outcome.RunEnd.{RunEnd}
use Rattle.xw_lines.specs.declared.outcome.RunEnd.TheVariants.{Done, ReadFailed, WriteFailed, Stopped, Endless, Memory}
use Rattle.xw_lines.specs.declared.outcome.Step.{Step}
use Rattle.xw_session.specs.State.{SessionState}
use Rattle.xw_desk.specs.Desk.{Moment}
use Rattle.xw_cli.specs.SessionFiles.{file_of}

-- The input was read to its end, and all its lines are answered. This number of them was refused.
pub record AnswersAll {S : Type 0} (Answers : S → List ℕ → Step → List ℕ → S → Type 0) (refused : ℕ) (start left : S) (old new : Moment) : Type 0 where
  pub text : List ℕ
  pub read : new.read ≡ old.read ++ text
  pub at_end : IsTrue new.is_at_end
  pub count : ℕ
  pub refused_is : refused ≡ saturated count
  pub speaks : Speaks Answers start (lines_of text) count left old.told new.told

-- All complete lines of this text, which was read, are answered.
pub record AnswersFirst {S : Type 0} (Answers : S → List ℕ → Step → List ℕ → S → Type 0) (text : List ℕ) (start left : S) (old new : Moment) : Type 0 where
  pub read : new.read ≡ old.read ++ text
  pub count : ℕ
  pub speaks : Speaks Answers start (ended_lines text) count left old.told new.told

-- The input failed. All complete lines before are answered.
pub record FailsToRead {S : Type 0} (Answers : S → List ℕ → Step → List ℕ → S → Type 0) (start left : S) (old new : Moment) : Type 0 where
  pub text : List ℕ
  pub first : AnswersFirst Answers text start left old new
  pub failed : HasFailed old.read_failures new.read_failures

-- The output failed, or took no bytes. The answers to some first lines were written, and a part of the next one.
pub record FailsToWrite {S : Type 0} (Answers : S → List ℕ → Step → List ℕ → S → Type 0) (start left : S) (old new : Moment) : Type 0 where
  pub text : List ℕ
  pub read : new.read ≡ old.read ++ text
  pub failed : HasFailed old.write_failures new.write_failures
  pub stops : StopsIn Answers (BreaksOff Answers) start text left old.told new.told

-- The session stopped at a line. The answers to the lines before it were written.
pub record StopsAtLine {S : Type 0} (Answers : S → List ℕ → Step → List ℕ → S → Type 0) (Stops : S → List ℕ → S → List ℕ → List ℕ → Type 0) (start left : S) (old new : Moment) : Type 0 where
  pub text : List ℕ
  pub read : new.read ≡ old.read ++ text
  pub stops : StopsIn Answers Stops start text left old.told new.told

-- The input did not end within the greatest count of reads. All complete lines are answered.
pub record ReadsTooMuch {S : Type 0} (Answers : S → List ℕ → Step → List ℕ → S → Type 0) (start left : S) (old new : Moment) : Type 0 where
  pub text : List ℕ
  pub first : AnswersFirst Answers text start left old new
  pub long : 2 ^ 64 - 1 ≤ length text

-- Nothing was read or written.
pub record AnswersNothing {S : Type 0} (start left : S) (old new : Moment) : Type 0 where
  pub read : new.read ≡ old.read
  pub told : new.told ≡ old.told
  pub state : left ≡ start

-- The input was read to its end, and its last line has no LF. The lines before it are answered, with the output up to
-- `told`, and left this state.
pub record LeavesLast {S : Type 0} (Answers : S → List ℕ → Step → List ℕ → S → Type 0) (start left : S) (told : List ℕ) (old new : Moment) : Type 0 where
  pub text : List ℕ
  pub read : new.read ≡ old.read ++ text
  pub at_end : IsTrue new.is_at_end
  pub no_lf : last_piece text ≢ []
  pub count : ℕ
  pub speaks : Speaks Answers start (ended_lines text) count left old.told told

-- how the input is answered from one state to another, by how the run ended; a failed allocation ends it before the first
-- line, or before a last line without an LF
abbrev pub AnswersBy : {S : Type 0} → (S → List ℕ → Step → List ℕ → S → Type 0) → (S → List ℕ → S → List ℕ → List ℕ → Type 0) → RunEnd → S → S → Moment → Moment → Type 0
AnswersBy Answers Stops (Done refused) start left old new = AnswersAll Answers refused start left old new
AnswersBy Answers Stops ReadFailed start left old new = FailsToRead Answers start left old new
AnswersBy Answers Stops WriteFailed start left old new = FailsToWrite Answers start left old new
AnswersBy Answers Stops Stopped start left old new = StopsAtLine Answers Stops start left old new
AnswersBy Answers Stops Endless start left old new = ReadsTooMuch Answers start left old new
AnswersBy Answers Stops Memory start left old new = AnswersNothing start left old new ⊎ LeavesLast Answers start left new.told old new

-- nothing but the input and the output is used
abbrev pub IsConversation : Moment → Moment → Type 0
IsConversation old new = new ≡ record old { read = new.read; is_at_end = new.is_at_end; read_failures = new.read_failures; told = new.told; write_failures = new.write_failures; is_closed = new.is_closed }

abbrev pub AnswersInput : {S : Type 0} → (S → List ℕ → Step → List ℕ → S → Type 0) → (S → List ℕ → S → List ℕ → List ℕ → Type 0) → RunEnd → S → S → Moment → Moment → Type 0
AnswersInput Answers Stops end start left old new = AnswersBy Answers Stops end start left old new × IsConversation old new

-- ---- a last line without an LF

-- an input that was read to its end ends with an LF or is empty
abbrev pub EndsWithLf : RunEnd → Moment → Moment → Type 0
EndsWithLf (Done refused) old new = (text : List ℕ) × (new.read ≡ old.read ++ text) × (last_piece text ≡ [])
EndsWithLf other old new = Unit {0}

-- This is the file of the session before a last line without an LF. There is none if the input, which was read to its end,
-- has no such line.
abbrev pub HasBefore : {S : Type 0} → (S → List ℕ → Step → List ℕ → S → Type 0) → (S → SessionState) → Option (List ℕ) → RunEnd → S → Moment → Moment → Type 0
HasBefore Answers state None end start old new = EndsWithLf end old new
HasBefore {S} Answers state (Some bytes) end start old new = (left : S) × (told : List ℕ) × LeavesLast Answers start left told old new × (bytes ≡ file_of (state left))
