use Rattle.std.proofs.Common.{◌≡◌, ◌≤◌, take}
use Rattle.std.specs.Prelude.{count_by, flat_map}
use Rattle.xw_grid.specs.Grid.{cells}
use Rattle.xw_grid.specs.Light.{begins_some, lights_at}
use Rattle.xw_grid.proofs.lights.list.Given as goal

-- the lights of the cells so far, and the number of these cells that begin one
abbrev pub invariant-loop-index : goal.invariant-loop-index
invariant-loop-index l = record {
  few : l.begun ≤ l.index;
  begun : l.begun ≡ count_by (begins_some l.grid) (take l.index (cells l.grid));
  lights : l.lights.items ≡ flat_map (lights_at l.grid) (take l.index (cells l.grid));
}
