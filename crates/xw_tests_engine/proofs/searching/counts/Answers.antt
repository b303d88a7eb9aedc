use Rattle.std.proofs.Common.{length, ap, arith}
use Rattle.xw_feas.specs.Board.{board_of}
use Rattle.xw_feas.proofs.BoardLemmas.{length-lights}
use Rattle.xw_tests_engine.proofs.searching.counts.Goals as goal

pub tally-requires-clause-light : goal.tally-requires-clause-light
tally-requires-clause-light g c =
    omega (arith, c.if-light-light_count.false, c.light_count.ensures, ap (λ board. length board.lights) c.new-board.ensures, ap (λ grid. length (board_of grid).lights) c.grid.ensures, length-lights (g.E.Feasible.state c.args.engine.now).grid)
