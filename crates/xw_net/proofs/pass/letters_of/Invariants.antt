use Rattle.std.proofs.Common.{◌≡◌, ◌<◌, ◌-◌, ℕ, true, length}
use Rattle.xw_words.specs.Dictionary.{known_words}
use Rattle.xw_feas.specs.Flags.{set_has}
use Rattle.xw_net.specs.Support.{supports}
use Rattle.xw_net.proofs.pass.letters_of.Given as goal

abbrev pub invariant-loop-index : goal.invariant-loop-index
invariant-loop-index l = record {
  long : length l.sets ≡ 32;
  some_has : (position letter : ℕ) → set_has l.sets position letter ≡ true → (word : ℕ) × (supports l.row.bits (known_words l.bank.words l.len) position letter word ≡ true);
  all_of : (position letter word : ℕ) → word < l.from → supports l.row.bits (known_words l.bank.words l.len) position letter word ≡ true → set_has l.sets position letter ≡ true;
}

abbrev pub decreases-loop-index : goal.decreases-loop-index
decreases-loop-index l = length l.row.bits - l.from
