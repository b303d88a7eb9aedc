use Rattle.std.proofs.Common.{arith}
use Rattle.xw_grid.proofs.CountLemmas.{lights_are_few}
use Rattle.xw_feas.proofs.BoardLemmas.{length-lights}
use Rattle.xw_best.proofs.best.grades.grade_sum.Goals as goal

pub overflow_add-sum : goal.overflow_add-sum
overflow_add-sum g c =
    let state = g.E.Feasible.state c.args.engine.now in
    let few = lights_are_few state.grid (g.met.E.Feasible.well_formed c.args.engine.now).grid in
    omega (arith, few, length-lights state.grid, c.loop-light.invariant.small, c.loop-light.auto.light-end, c.light_count-light-end.ensures)
