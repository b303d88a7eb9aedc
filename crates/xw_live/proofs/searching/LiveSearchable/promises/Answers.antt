use Rattle.std.proofs.Common.{◌<◌, length, sym, ap, subst, arith}
use Rattle.xw_feas.specs.Board.{Board, light_at}
use Rattle.xw_feas.proofs.BoardLemmas.{length-lights}
use Rattle.xw_live.proofs.searching.LiveSearchable.promises.Goals as goal

pub promises-requires-clause-settled : goal.promises-requires-clause-settled
promises-requires-clause-settled c =
    let live = c.args.self.now in
    record { grid = live.position.grid; is_board = sym c.new-board.ensures; settled = live.kept.settled }

pub promises-requires-clause-light : goal.promises-requires-clause-light
promises-requires-clause-light c =
    omega (arith, c.requires.light, length-lights c.args.self.now.position.grid, ap (λ (board : Board). length board.lights) c.new-board.ensures)

pub promises-requires-clause-position : goal.promises-requires-clause-position
promises-requires-clause-position c =
    subst (λ (board : Board). c.args.position < length (light_at board c.args.light)) (sym c.new-board.ensures) c.requires.position
