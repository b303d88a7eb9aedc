use Rattle.std.proofs.Common.{◌≡◌, ◌<◌, ℕ, Some, None}
use Rattle.std.specs.Prelude.{slice_index}
use Rattle.xw_net.specs.Entered.{IsNew}
use Rattle.xw_net.proofs.enter.only_new.Given as goal

abbrev pub invariant-loop-position : goal.invariant-loop-position
invariant-loop-position l = record {
  one : (cell : ℕ) → l.found ≡ Some cell → IsNew l.grid l.written cell × ((k : ℕ) → k < l.position → IsNew l.grid l.written (slice_index l.cells k) → slice_index l.cells k ≡ cell);
  none : l.found ≡ None → (k : ℕ) → k < l.position → ¬ IsNew l.grid l.written (slice_index l.cells k);
}
