use Rattle.std.proofs.Common.{◌≡◌, ◌⊎◌, ℕ, ◌<◌, ◌≤◌, Bool, Some, length}
use Rattle.std.specs.Prelude.{slice_get}
use Rattle.xw_answers.proofs.numbering.forget_between.Given as goal

abbrev pub invariant-loop-index : goal.invariant-loop-index
invariant-loop-index l = record {
  long : length l.known.items ≡ length l.initial.known.items;
  kept : (index : ℕ) (is : Bool) → slice_get l.known.items index ≡ Some (Some is) → slice_get l.initial.known.items index ≡ Some (Some is);
  gone : (index : ℕ) (is : Bool) → slice_get l.known.items index ≡ Some (Some is) → (index < l.from) ⊎ (l.index ≤ index);
}
