use Rattle.std.proofs.Common.{◌≡◌, ◌<◌, ◌+◌, ℕ, true, false, Some, None}
use Rattle.xw_letters.specs.LetterSet.{has}
use Rattle.xw_search.proofs.choice.next_letter.Given as goal

abbrev pub invariant-loop-number : goal.invariant-loop-number
invariant-loop-number g l = record {
  some : (letter : ℕ) → l.best ≡ Some letter → (has l.letters letter ≡ true) × (has l.tried letter ≡ false);
  none : l.best ≡ None → (k : ℕ) → k < l.number → has l.letters (65 + k) ≡ true → has l.tried (65 + k) ≡ true;
}
