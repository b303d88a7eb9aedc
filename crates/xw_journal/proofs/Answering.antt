-- The answer of an executed line, written whole or in part.
use Rattle.std.proofs.Common.{◌≡◌, ℕ, List, ◌++◌, sym, ◌∙◌, ap, append-nil}
use Rattle.std.specs.Prelude.{Option}
use Rattle.xw_lines.specs.Device.{Begins}
use Rattle.xw_lines.specs.Spoken.{Answered, BreaksPiece}
use Rattle.xw_lines.specs.declared.outcome.AnswerFault.TheVariants.{WriteFailed}
use Rattle.xw_lines.specs.declared.outcome.Step.{Step}
use Rattle.xw_lines.specs.declared.outcome.Step.TheVariants.{Silent}
use Rattle.xw_journal.specs.Journal.{JournaledState, AnswersJournaled, StopsAtJournal, IsExecuted}

module _ (old new : JournaledState) (piece : Option (List ℕ)) (step : Step) (answer : List ℕ) (done : IsExecuted old piece step answer new) where
  pub answered : (told told' : List ℕ) → told' ≡ told ++ answer → Answered AnswersJournaled old piece step new told told'
  answered told told' is = record { answer = answer; fits = done.fits; transcript = is }

  pub answered_silently : (told : List ℕ) → step ≡ Silent → Answered AnswersJournaled old piece step new told told
  answered_silently told silent = answered told told (sym (ap (λ xs. told ++ xs) (done.silent silent) ∙ append-nil told))

  pub broke_off : (told told' : List ℕ) → Begins told told' answer → BreaksPiece AnswersJournaled StopsAtJournal WriteFailed old piece new told told'
  broke_off told told' begins line h = record { outcome = step; answer = answer; answers = done.fits line h; begins = begins }
