use Rattle.std.proofs.Common.{◌≡◌, [], take}
use Rattle.std.specs.Prelude.{flat_map}
use Rattle.xw_grid.specs.Grid.{Grid, cells}
use Rattle.xw_journal.specs.Journal.{entered_at, HasEntriesBefore}
use Rattle.xw_journal.proofs.journal.has_entered.Given as goal

abbrev pub invariant-loop-index : goal.invariant-loop-index
invariant-loop-index l = (was : Grid) → HasEntriesBefore was l.grid l.before → flat_map (entered_at was l.grid) (take l.index (cells l.grid)) ≡ []
