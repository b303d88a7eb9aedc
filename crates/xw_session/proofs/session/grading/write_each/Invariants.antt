use Rattle.std.proofs.Common.{◌≡◌, ◌++◌, ℕ, List}
use Rattle.std.specs.Prelude.{flat_map}
use Rattle.xw_search.specs.NamedFill.{AreLights}
use Rattle.xw_session.specs.NamedSearch.{names_of}
use Rattle.xw_session.specs.Grades.{named_line}
use Rattle.xw_session.proofs.session.grading.write_each.Given as goal

-- the first lights are written, and the iterator has the others
abbrev pub invariant-loop-named : goal.invariant-loop-named
invariant-loop-named g l = (sent : List ℕ) × record {
  transcript : g.W.Sink.transcript l.sink ≡ g.W.Sink.transcript l.initial.sink ++ sent;
  left : flat_map (named_line (g.E.Feasible.state l.engine)) (names_of l.fn.lights) ≡ sent ++ flat_map (named_line (g.E.Feasible.state l.engine)) (names_of l.named-iterator);
  quiet : g.W.Sink.failures l.sink ≡ g.W.Sink.failures l.initial.sink;
  there : AreLights (g.E.Feasible.state l.engine) (names_of l.named-iterator);
}
