use Rattle.std.proofs.Common.{◌≡◌, ℕ, ◌*◌, ◌<◌, length, get_or}
use Rattle.std.specs.Prelude.{None}
use Rattle.xw_grid.specs.Grid.{cell_at}
use Rattle.xw_grid.specs.Light.{passes, no_light}
use Rattle.xw_grid.specs.LightTable.{IsFirstOf}
use Rattle.xw_grid.proofs.light_table.through.Given as goal

-- for each cell the first light so far that passes through it
abbrev pub invariant-loop-index : goal.invariant-loop-index
invariant-loop-index l = record {
  long : length l.table.items ≡ l.grid.width * l.grid.height;
  each : (s : ℕ) → s < l.grid.width * l.grid.height → IsFirstOf (λ i. passes l.direction (cell_at l.grid s) (get_or l.lights i no_light)) l.index (get_or l.table.items s None);
}
