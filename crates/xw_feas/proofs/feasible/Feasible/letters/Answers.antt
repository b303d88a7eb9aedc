use Rattle.std.proofs.Common.{length, ap, arith}
use Rattle.xw_grid.specs.Grid.{Grid}
use Rattle.xw_feas.proofs.feasible.Feasible.letters.Goals as goal

pub letters_at-requires : goal.letters_at-requires
letters_at-requires g c = omega (arith, c.in-Some-2.ensures.within, ap (λ (grid : Grid). length grid.squares) c.grid-grid.ensures)
