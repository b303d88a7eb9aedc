use Rattle.xw_grid.specs.Puzzle.{puzzle_view}
use Rattle.xw_session.proofs.Opened.{opened_at}
use Rattle.xw_session.proofs.opening.open_puzzle.Goals as goal

pub returns-in-Ok : goal.returns-in-Ok
returns-in-Ok g c = record { ok = opened_at _ (g.F.Feasible.state c.in-Ok.engine) c.args.bank.words (puzzle_view c.args.puzzle) c.open-in-Ok.ensures c.in-Ok.ensures.ok }
