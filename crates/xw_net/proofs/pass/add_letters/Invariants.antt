use Rattle.std.proofs.Common.{◌≡◌, ◌<◌, ◌≤◌, ◌||◌, ℕ, length, slice_get}
use Rattle.xw_feas.specs.Flags.{set_has}
use Rattle.xw_words.specs.Columns.{letter_is}
use Rattle.xw_net.proofs.pass.add_letters.Given as goal

abbrev pub invariant-loop-position : goal.invariant-loop-position
invariant-loop-position l = record {
  len : length l.sets ≡ length l.fn.sets;
  done : (k letter : ℕ) → k < l.position → set_has l.sets k letter ≡ (set_has l.fn.sets k letter || letter_is (slice_get l.word k) letter);
  rest : (k letter : ℕ) → l.position ≤ k → set_has l.sets k letter ≡ set_has l.fn.sets k letter;
}
