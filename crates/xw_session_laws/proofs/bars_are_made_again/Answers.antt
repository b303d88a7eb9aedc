use Rattle.std.proofs.Common.{◌*◌, false, replicate}
use Rattle.std.proofs.lemmas.List.{length-replicate}
use Rattle.xw_grid.specs.declared.cell.Square.TheVariants.{Open}
use Rattle.std.specs.Prelude.{None}
use Rattle.xw_session_laws.proofs.BarsAgain.{right_again, below_again}
use Rattle.xw_session_laws.proofs.bars_are_made_again.Goals as goal

pub returns-clause-right : goal.returns-clause-right
returns-clause-right c = λ state made is only.
    let grid = made.engine.grid in
    right_again state grid is only (replicate (grid.width * grid.height) (Open None)) (replicate (grid.width * grid.height) false) (length-replicate (grid.width * grid.height) false) made.clues made.circles

pub returns-clause-below : goal.returns-clause-below
returns-clause-below c = λ state made is only.
    let grid = made.engine.grid in
    below_again state grid is only (replicate (grid.width * grid.height) (Open None)) grid.right is.right made.clues made.circles
