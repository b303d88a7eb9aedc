use Rattle.std.proofs.Common.{ℕ}
use Rattle.xw_net.proofs.Levels.NewCells.{IsNewBelow}
use Rattle.xw_net.proofs.enter.is_new.Given as goal

abbrev pub invariant-loop-at : goal.invariant-loop-at
invariant-loop-at l = ¬ IsNewBelow l.grid l.written l.at l.cell
