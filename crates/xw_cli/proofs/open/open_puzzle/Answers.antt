use Rattle.xw_grid.specs.Puzzle.{puzzle_view}
use Rattle.xw_cli.proofs.open.open_puzzle.Goals as goal

pub returns-clause-ok : goal.returns-clause-ok
returns-clause-ok g c = (puzzle_view c.in_ok-puzzle.puzzle, (c.in_ok-puzzle.field-0-0, c.in_ok-puzzle.ensures.ok), c.in_ok-open_puzzle.ensures.ok)
