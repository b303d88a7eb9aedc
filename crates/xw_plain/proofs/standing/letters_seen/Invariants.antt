use Rattle.std.proofs.Common.{◌≡◌, ℕ, ◌<◌, false, get_or, []}
use Rattle.std.specs.Prelude.{IsTrue}
use Rattle.xw_letters.specs.LetterSet.{has}
use Rattle.xw_feas.specs.Choices.{choices}
use Rattle.xw_plain.proofs.standing.letters_seen.Given as goal

abbrev pub invariant-loop-choice : goal.invariant-loop-choice
invariant-loop-choice l = record {
  each : (choice : ℕ) → choice < l.choice → IsTrue (get_or l.words choice false) → IsTrue (has l.seen (get_or (get_or (choices l.board l.bank.words l.cells) choice []) l.position 0));
  no_other : (letter : ℕ) → IsTrue (has l.seen letter) → (choice : ℕ) × IsTrue (get_or l.words choice false) × (get_or (get_or (choices l.board l.bank.words l.cells) choice []) l.position 0 ≡ letter);
}
