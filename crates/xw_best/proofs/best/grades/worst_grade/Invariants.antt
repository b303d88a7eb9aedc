use Rattle.xw_search.specs.NamedFill.{flags}
use Rattle.xw_best.proofs.LeastLemmas.{IsWorst}
use Rattle.xw_best.proofs.best.grades.worst_grade.Given as goal

abbrev pub invariant-loop-light : goal.invariant-loop-light
invariant-loop-light g l = record { worst : IsWorst l.light (flags l.flagged) (g.E.Feasible.state l.engine) l.worst }
