use Rattle.std.proofs.Common.{◌≡◌, ◌≤◌, ◌*◌}
use Rattle.xw_search.specs.NamedFill.{flags}
use Rattle.xw_search.specs.Below.{sum_below}
use Rattle.xw_best.specs.Inner.Climbing.{new_grade}
use Rattle.xw_best.proofs.best.grades.grade_sum.Given as goal

abbrev pub invariant-loop-light : goal.invariant-loop-light
invariant-loop-light g l = record {
  sum : l.sum ≡ sum_below (new_grade (flags l.flagged) (g.E.Feasible.state l.engine)) l.light;
  small : l.sum ≤ 255 * l.light;
}
