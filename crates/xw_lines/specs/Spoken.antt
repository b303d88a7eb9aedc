-- The answers that a list of lines may get.
use Rattle.std.specs.Prelude.{◌≡◌, ℕ, ◌+◌, List, [], ◌∷◌, ◌++◌, Option}
use Rattle.xw_lines.specs.Cut.{held}
use Rattle.xw_lines.specs.Device.{Begins, HasFailed, flushed}
use Rattle.xw_lines.specs.declared.outcome.AnswerFault.{AnswerFault}
use Rattle.xw_lines.specs.declared.outcome.AnswerFault.TheVariants.{WriteFailed, Stopped}
use Rattle.xw_lines.specs.declared.outcome.Step.{Step}
use Rattle.xw_lines.specs.declared.outcome.Step.TheVariants.{Silent, Accepted, Refused}

-- 1 for a refusal, 0 otherwise
abbrev pub refusals : Step → ℕ
refusals Silent = 0
refusals Accepted = 0
refusals Refused = 1

-- the flush after an answer; a silent line has no answer and no flush
abbrev pub flush_after : Step → List ℕ
flush_after Silent = []
flush_after Accepted = flushed ∷ []
flush_after Refused = flushed ∷ []

-- Starting in `start`, these lines may get the output `out`, with `refused` refusals, and leave the state `end`.
-- `Answers start line outcome answer end` says this of one line. Each answer is followed by exactly one flush, and
-- there is no other flush.
abbrev pub Spoken : {S : Type 0} → (S → List ℕ → Step → List ℕ → S → Type 0) → S → List (List ℕ) → List ℕ → ℕ → S → Type 0
Spoken Answers start [] out refused end = (out ≡ []) × (refused ≡ 0) × (end ≡ start)
Spoken {S} Answers start (line ∷ lines) out refused end =
    (outcome : Step) × (answer : List ℕ) × (mid : S) × (others : List ℕ) × (more : ℕ)
    × Answers start line outcome answer mid × Spoken Answers mid lines others more end
    × (out ≡ answer ++ flush_after outcome ++ others) × (refused ≡ refusals outcome + more)

-- the answer is allowed for every line whose buffered form is this piece
abbrev pub AnswersPiece : {S : Type 0} → (S → List ℕ → Step → List ℕ → S → Type 0) → S → Option (List ℕ) → Step → List ℕ → S → Type 0
AnswersPiece Answers start piece outcome answer end = (line : List ℕ) → held line ≡ piece → Answers start line outcome answer end

-- the whole answer to the buffered line was written
pub record Answered {S : Type 0} (Answers : S → List ℕ → Step → List ℕ → S → Type 0) (start : S) (piece : Option (List ℕ)) (outcome : Step) (end : S) (old new : List ℕ) : Type 0 where
  pub answer : List ℕ
  pub fits : AnswersPiece Answers start piece outcome answer end
  pub transcript : new ≡ old ++ answer

-- a prefix of an answer to the line was written
pub record BreaksOff {S : Type 0} (Answers : S → List ℕ → Step → List ℕ → S → Type 0) (start : S) (line : List ℕ) (end : S) (old new : List ℕ) : Type 0 where
  pub outcome : Step
  pub answer : List ℕ
  pub answers : Answers start line outcome answer end
  pub begins : Begins old new answer

-- How the answer to a line was cut short. `Stops state line next old new` says that the handler may stop at the line.
abbrev pub broken_by : {S : Type 0} → (S → List ℕ → Step → List ℕ → S → Type 0) → (S → List ℕ → S → List ℕ → List ℕ → Type 0) → AnswerFault → S → List ℕ → S → List ℕ → List ℕ → Type 0
broken_by Answers Stops WriteFailed = BreaksOff Answers
broken_by Answers Stops Stopped = Stops

-- the answer was cut short, for each line whose buffered form is this piece
abbrev pub BreaksPiece : {S : Type 0} → (S → List ℕ → Step → List ℕ → S → Type 0) → (S → List ℕ → S → List ℕ → List ℕ → Type 0) → AnswerFault → S → Option (List ℕ) → S → List ℕ → List ℕ → Type 0
BreaksPiece Answers Stops fault start piece end old new = (line : List ℕ) → held line ≡ piece → broken_by Answers Stops fault start line end old new

-- the writer failed, if the fault is `WriteFailed`
abbrev pub HasFailedFor : AnswerFault → ℕ → ℕ → Type 0
HasFailedFor WriteFailed old new = HasFailed old new
HasFailedFor Stopped old new = Unit {0}

-- a handler that never stops
abbrev pub NeverStops : {S : Type 0} → S → List ℕ → S → List ℕ → List ℕ → Type 0
NeverStops state line next old new = ⊥
