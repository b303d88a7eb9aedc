-- What a run over a reader and a writer does.
use Rattle.std.specs.Prelude.{◌≡◌, ℕ, ◌-◌, ◌^◌, ◌≤◌, Bool, IsTrue, List, ◌∷◌, ◌++◌, length, Option}
use Rattle.xw_lines.specs.Cut.{ended_lines, last_piece, lines_of, held}
use Rattle.xw_lines.specs.Device.{saturated, counted_up, HasFailed}
use Rattle.xw_lines.specs.Spoken.{Spoken, BreaksOff}
use Rattle.xw_lines.specs.declared.outcome.AnswerFault.{AnswerFault}
use Rattle.xw_lines.specs.declared.outcome.AnswerFault.TheVariants as faults
use Rattle.xw_lines.specs.declared.outcome.Step.{Step}
use Rattle.xw_lines.specs.declared.outcome.RunEnd.{RunEnd}
use Rattle.xw_lines.specs.declared.outcome.RunEnd.TheVariants.{Done, ReadFailed, WriteFailed, Stopped, Endless, Memory}

-- The output after `begun` is an allowed list of answers to these lines, each flushed. `count` of the answers are
-- refusals, and `state` is the state after all lines.
pub record Speaks {S : Type 0} (Answers : S → List ℕ → Step → List ℕ → S → Type 0) (start : S) (lines : List (List ℕ)) (count : ℕ) (state : S) (begun transcript : List ℕ) : Type 0 where
  pub out : List ℕ
  pub spoken : Spoken Answers start lines out count state
  pub transcript-is : transcript ≡ begun ++ out

-- The output after `begun` is the flushed answers to the first lines of the text, and then what `Breaks` says of the
-- next line, whose answer was cut short. The state is the one after all these lines, including the last.
pub record StopsIn {S : Type 0} (Answers : S → List ℕ → Step → List ℕ → S → Type 0) (Breaks : S → List ℕ → S → List ℕ → List ℕ → Type 0) (start : S) (text : List ℕ) (state : S) (begun transcript : List ℕ) : Type 0 where
  pub before : List (List ℕ)
  pub line : List ℕ
  pub after : List (List ℕ)
  pub are-lines : lines_of text ≡ before ++ line ∷ after
  pub out : List ℕ
  pub refused : ℕ
  pub mid : S
  pub spoken : Spoken Answers start before out refused mid
  pub breaks : Breaks mid line state (begun ++ out) transcript

-- A run in progress: all complete lines read so far are answered, and the rest is buffered.
pub record Progress {S : Type 0} (Answers : S → List ℕ → Step → List ℕ → S → Type 0) (start : S) (begun text : List ℕ) (state : S) (piece : Option (List ℕ)) (refused : ℕ) (transcript : List ℕ) : Type 0 where
  pub count : ℕ
  pub speaks : Speaks Answers start (ended_lines text) count state begun transcript
  pub piece-is : piece ≡ held (last_piece text)
  pub refused-is : refused ≡ saturated count

-- how a run ends if an answer was cut short
abbrev pub broken_end : AnswerFault → RunEnd
broken_end faults.WriteFailed = WriteFailed
broken_end faults.Stopped = Stopped

-- How a run ends whose reader came to its end after this text. The arguments after the text are the state that it leaves, the
-- output before the run and after it, and the writer's count of failures before the last line and after it.
abbrev pub IsFinished : {S : Type 0} → (S → List ℕ → Step → List ℕ → S → Type 0) → (S → List ℕ → S → List ℕ → List ℕ → Type 0) → RunEnd → S → List ℕ → S → List ℕ → List ℕ → ℕ → ℕ → Type 0
IsFinished Answers Stops (Done refused) start text end begun transcript failures failures' =
    (count : ℕ) × (refused ≡ saturated count) × Speaks Answers start (lines_of text) count end begun transcript × (failures' ≡ failures)
IsFinished Answers Stops WriteFailed start text end begun transcript failures failures' =
    StopsIn Answers (BreaksOff Answers) start text end begun transcript × HasFailed failures failures'
IsFinished Answers Stops Stopped start text end begun transcript failures failures' = StopsIn Answers Stops start text end begun transcript
IsFinished Answers Stops other start text end begun transcript failures failures' = ⊥

-- a run that ended before its reader came to its end
abbrev pub IsEarly : RunEnd → Type 0
IsEarly (Done refused) = ⊥
IsEarly other = Unit {0}

-- The reader came to its end, and each line that ends with an LF is answered. `piece` holds the bytes after the last LF, and
-- `refused` lines were refused. No read failed, and no write. The ghost functions are those of `IsRun`.
pub record IsRead {S R W : Type 0} (Answers : S → List ℕ → Step → List ℕ → S → Type 0) (read : R → List ℕ) (is_at_end : R → Bool) (read_failures : R → ℕ) (written : W → List ℕ) (write_failures : W → ℕ)
    (piece : Option (List ℕ)) (refused : ℕ) (start end : S) (source source' : R) (sink sink' : W) : Type 0 where
  pub text : List ℕ
  pub passed : read source' ≡ read source ++ text
  pub at_end : IsTrue (is_at_end source')
  pub goes_on : Progress Answers start (written sink) text end piece refused (written sink')
  pub unfailed : read_failures source' ≡ read_failures source
  pub quiet : write_failures sink' ≡ write_failures sink

-- What a run did, by how it ended. The ghost functions of the reader are `read`, `is_at_end` and `read_failures`;
-- those of the writer are `written` and `write_failures`. Before the run, the line handler, the reader and the writer
-- are `start`, `source` and `sink`; after it they are `end`, `source'` and `sink'`. A run ends at the first read,
-- write or flush that fails.
abbrev pub IsRun : {S R W : Type 0} → (S → List ℕ → Step → List ℕ → S → Type 0) → (S → List ℕ → S → List ℕ → List ℕ → Type 0) → (R → List ℕ) → (R → Bool) → (R → ℕ) → (W → List ℕ) → (W → ℕ)
    → RunEnd → S → S → R → R → W → W → Type 0
-- The reader came to its end, and all lines are answered. No read failed, and no write.
IsRun Answers Stops read is_at_end read_failures written write_failures (Done refused) start end source source' sink sink' =
    (text : List ℕ) × (read source' ≡ read source ++ text) × IsTrue (is_at_end source')
    × (count : ℕ) × (refused ≡ saturated count) × Speaks Answers start (lines_of text) count end (written sink) (written sink')
    × (read_failures source' ≡ read_failures source) × (write_failures sink' ≡ write_failures sink)
-- A read failed. All complete lines before it are answered. No write failed.
IsRun Answers Stops read is_at_end read_failures written write_failures ReadFailed start end source source' sink sink' =
    (text : List ℕ) × (read source' ≡ read source ++ text) × HasFailed (read_failures source) (read_failures source')
    × (count : ℕ) × Speaks Answers start (ended_lines text) count end (written sink) (written sink')
    × (read_failures source' ≡ counted_up (read_failures source)) × (write_failures sink' ≡ write_failures sink)
-- A write or a flush failed, or a write took no bytes. The lines before that answer are answered. No read failed.
IsRun Answers Stops read is_at_end read_failures written write_failures WriteFailed start end source source' sink sink' =
    (text : List ℕ) × (read source' ≡ read source ++ text) × HasFailed (write_failures sink) (write_failures sink')
    × StopsIn Answers (BreaksOff Answers) start text end (written sink) (written sink') × (read_failures source' ≡ read_failures source)
-- The line handler stopped at a line. The lines before it are answered. No read failed.
IsRun Answers Stops read is_at_end read_failures written write_failures Stopped start end source source' sink sink' =
    (text : List ℕ) × (read source' ≡ read source ++ text) × StopsIn Answers Stops start text end (written sink) (written sink')
    × (read_failures source' ≡ read_failures source)
-- At least `u64::MAX` bytes were read, and the reader did not end. All complete lines are answered. No read failed,
-- and no write.
IsRun Answers Stops read is_at_end read_failures written write_failures Endless start end source source' sink sink' =
    (text : List ℕ) × (read source' ≡ read source ++ text) × (2 ^ 64 - 1 ≤ length text)
    × (count : ℕ) × Speaks Answers start (ended_lines text) count end (written sink) (written sink')
    × (read_failures source' ≡ read_failures source) × (write_failures sink' ≡ write_failures sink)
-- An allocation failed before the first read. Neither the reader nor the writer was called.
IsRun Answers Stops read is_at_end read_failures written write_failures Memory start end source source' sink sink' =
    (source' ≡ source) × (sink' ≡ sink) × (end ≡ start)
