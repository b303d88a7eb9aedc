use Rattle.std.proofs.Common.{◌≡◌, drop}
use Rattle.xw_grid.specs.declared.cell.Cell.{Cell}
use Rattle.xw_grid.specs.EditLaws.{SameShape}
use Rattle.xw_feas.specs.Shape.{fault_at}
use Rattle.xw_feas.specs.State.{write_list}
use Rattle.xw_feas.proofs.write.enter_list.Given as goal

-- writing the remaining cells gives what writing the whole list into the old grid gives
abbrev pub invariant-loop-written : goal.invariant-loop-written
invariant-loop-written l = record {
  written : write_list (drop l.written-index l.list) l.grid ≡ write_list l.list l.initial.grid;
  shape : SameShape l.initial.grid l.grid;
  faults : (cell : Cell) → fault_at l.grid cell ≡ fault_at l.initial.grid cell;
}
