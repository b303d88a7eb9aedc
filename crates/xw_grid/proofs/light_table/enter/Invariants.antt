use Rattle.std.proofs.Common.{◌≡◌, ℕ, ◌<◌, cond, length, get_or}
use Rattle.std.specs.Prelude.{Some, None}
use Rattle.std.specs.Option.{unwrap_or}
use Rattle.xw_grid.specs.Grid.{cell_at}
use Rattle.xw_grid.specs.Light.{is_on_line}
use Rattle.xw_grid.proofs.light_table.enter.Given as goal

-- the first cells of the light are entered
abbrev pub invariant-loop-k : goal.invariant-loop-k
invariant-loop-k l = record {
  long : length l.table ≡ length l.initial.table;
  each : (s : ℕ) → s < length l.initial.table → get_or l.table s None ≡ cond (is_on_line l.light.name.direction l.light.start l.k (cell_at l.grid s)) (Some (unwrap_or (get_or l.initial.table s None) l.index)) (get_or l.initial.table s None);
}
