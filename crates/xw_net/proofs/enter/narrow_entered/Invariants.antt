use Rattle.std.proofs.Common.{◌≡◌, ◌⊎◌, ℕ, length}
use Rattle.xw_net.specs.Entered.{IsNarrowedCell, IsSameCell}
use Rattle.xw_net.proofs.Levels.NewCells.{IsNewBelow}
use Rattle.xw_net.proofs.enter.narrow_entered.Given as goal

abbrev pub invariant-loop-at : goal.invariant-loop-at
invariant-loop-at l = record {
  len : length l.letters ≡ length l.fn.letters;
  narrowed : (cell : ℕ) → IsNarrowedCell l.board cell l.fn.letters l.letters ⊎ ((¬ IsNewBelow l.grid l.written l.at cell) × IsSameCell cell l.fn.letters l.letters);
}
