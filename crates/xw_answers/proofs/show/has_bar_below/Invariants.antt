use Rattle.std.proofs.Common.{◌≡◌, false, take}
use Rattle.std.specs.List.{list_any}
use Rattle.xw_grid.specs.declared.cell.Side.TheVariants.{Below}
use Rattle.xw_grid.specs.Grid.{is_barred}
use Rattle.xw_answers.specs.Show.{cell_in, columns}
use Rattle.xw_answers.proofs.show.has_bar_below.Given as goal

abbrev pub invariant-loop-before : goal.invariant-loop-before
invariant-loop-before l = list_any (λ before. is_barred l.grid (cell_in l.row before) Below) (take l.before (columns l.grid)) ≡ false
