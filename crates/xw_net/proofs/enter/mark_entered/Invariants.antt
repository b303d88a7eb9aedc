use Rattle.std.proofs.Common.{ℕ}
use Rattle.xw_net.specs.Spread.{IsThrough}
use Rattle.xw_net.specs.Worklist.{Adds}
use Rattle.xw_net.proofs.Levels.NewCells.{IsNewBelow}
use Rattle.xw_net.proofs.enter.mark_entered.Given as goal

abbrev pub invariant-loop-at : goal.invariant-loop-at
invariant-loop-at l = Adds (λ light. (cell : ℕ) × IsNewBelow l.grid l.written l.at cell × IsThrough l.board cell light) l.fn.list l.list
