use Rattle.std.proofs.Common.{◌≡◌, ◌≤◌, length}
use Rattle.std.specs.Prelude.{filter}
use Rattle.xw_grid.specs.Light.{line}
use Rattle.xw_session.specs.Erase.{is_erased, emptied}
use Rattle.xw_session.proofs.session.erasing.cells_erased.Given as goal

-- the list has those of the first cells that are erased
abbrev pub invariant-loop-k : goal.invariant-loop-k
invariant-loop-k g l = record {
  is : l.emptied ≡ emptied (filter (is_erased (g.E.Feasible.state l.engine) l.spares l.light.name.direction) (line l.light.name.direction l.light.start l.k));
  few : length l.emptied ≤ l.k;
}
