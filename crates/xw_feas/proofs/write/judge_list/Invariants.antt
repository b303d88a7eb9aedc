use Rattle.std.proofs.Common.{◌≡◌, ℕ, ◌<◌, get_or, None}
use Rattle.std.specs.Prelude.{Option}
use Rattle.xw_grid.specs.declared.cell.Cell.{Cell}
use Rattle.xw_feas.specs.Shape.{fault_at}
use Rattle.xw_feas.proofs.write.judge_list.Given as goal

-- the cells so far can be written
abbrev pub invariant-loop-index : goal.invariant-loop-index
invariant-loop-index l = (k : ℕ) (d : Cell × Option ℕ) → k < l.index → fault_at l.grid (get_or l.list k d).0 ≡ None
