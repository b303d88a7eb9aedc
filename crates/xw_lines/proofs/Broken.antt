-- A run that ends because an answer was not finished.
use Rattle.std.proofs.Common.{◌≡◌, ◌∙◌, ℕ, List, ◌++◌, Option, subst}
use Rattle.std.specs.Prelude.{Bool}
use Rattle.xw_lines.specs.Spoken.{broken_by, HasFailedFor}
use Rattle.xw_lines.specs.Device.{HasFailed}
use Rattle.xw_lines.specs.Run.{IsEarly, IsFinished, IsRead, IsRun, StopsIn, broken_end}
use Rattle.xw_lines.specs.declared.outcome.RunEnd.{RunEnd}
use Rattle.xw_lines.specs.declared.outcome.RunEnd.TheVariants as ends
use Rattle.xw_lines.specs.declared.outcome.Step.{Step}
use Rattle.xw_lines.specs.declared.outcome.AnswerFault.{AnswerFault}
use Rattle.xw_lines.specs.declared.outcome.AnswerFault.TheVariants.{WriteFailed, Stopped}

module _ {S R W : Type 0} (Answers : S → List ℕ → Step → List ℕ → S → Type 0) (Stops : S → List ℕ → S → List ℕ → List ℕ → Type 0)
    (read : R → List ℕ) (is_at_end : R → Bool) (read_failures : R → ℕ) (written : W → List ℕ) (write_failures : W → ℕ)
    (start end : S) (source source' : R) (sink sink' : W) (text : List ℕ) (passed : read source' ≡ read source ++ text) (reads : read_failures source' ≡ read_failures source) where
  pub broken-run : (fault : AnswerFault) → HasFailedFor fault (write_failures sink) (write_failures sink')
      → StopsIn Answers (broken_by Answers Stops fault) start text end (written sink) (written sink')
      → IsRun Answers Stops read is_at_end read_failures written write_failures (broken_end fault) start end source source' sink sink'
  broken-run WriteFailed failed stops = (text, passed, failed, stops, reads)
  broken-run Stopped failed stops = (text, passed, stops, reads)

-- the answer to the last line is not finished
pub broken-finish : {S : Type 0} (Answers : S → List ℕ → Step → List ℕ → S → Type 0) (Stops : S → List ℕ → S → List ℕ → List ℕ → Type 0) (start end : S) (text begun transcript : List ℕ) (failures failures' : ℕ)
    → (fault : AnswerFault) → HasFailedFor fault failures failures' → StopsIn Answers (broken_by Answers Stops fault) start text end begun transcript
    → IsFinished Answers Stops (broken_end fault) start text end begun transcript failures failures'
broken-finish Answers Stops start end text begun transcript failures failures' WriteFailed failed stops = (stops, failed)
broken-finish Answers Stops start end text begun transcript failures failures' Stopped failed stops = stops

-- a run whose reader came to its end, with the last line
pub run-read : {S R W : Type 0} (Answers : S → List ℕ → Step → List ℕ → S → Type 0) (Stops : S → List ℕ → S → List ℕ → List ℕ → Type 0)
    (read : R → List ℕ) (is_at_end : R → Bool) (read_failures : R → ℕ) (written : W → List ℕ) (write_failures : W → ℕ) (ended : RunEnd)
    (piece : Option (List ℕ)) (refused : ℕ) (start mid end : S) (source source' : R) (sink sink' sink'' : W)
    (r : IsRead Answers read is_at_end read_failures written write_failures piece refused start mid source source' sink sink')
    → IsFinished Answers Stops ended start r.text end (written sink) (written sink'') (write_failures sink') (write_failures sink'')
    → IsRun Answers Stops read is_at_end read_failures written write_failures ended start end source source' sink sink''
run-read Answers Stops read is_at_end read_failures written write_failures (ends.Done count) piece refused start mid end source source' sink sink' sink'' r f =
    (r.text, r.passed, r.at_end, f.0, f.1, f.2, r.unfailed, f.3 ∙ r.quiet)
run-read Answers Stops read is_at_end read_failures written write_failures ends.WriteFailed piece refused start mid end source source' sink sink' sink'' r f =
    (r.text, r.passed, subst (λ n. HasFailed n (write_failures sink'')) r.quiet f.1, f.0, r.unfailed)
run-read Answers Stops read is_at_end read_failures written write_failures ends.Stopped piece refused start mid end source source' sink sink' sink'' r f =
    (r.text, r.passed, f, r.unfailed)
run-read Answers Stops read is_at_end read_failures written write_failures ends.ReadFailed piece refused start mid end source source' sink sink' sink'' r f = absurd f
run-read Answers Stops read is_at_end read_failures written write_failures ends.Endless piece refused start mid end source source' sink sink' sink'' r f = absurd f
run-read Answers Stops read is_at_end read_failures written write_failures ends.Memory piece refused start mid end source source' sink sink' sink'' r f = absurd f

-- a run ends early if an answer is not finished
pub broken-early : (fault : AnswerFault) → IsEarly (broken_end fault)
broken-early WriteFailed = tt
broken-early Stopped = tt
