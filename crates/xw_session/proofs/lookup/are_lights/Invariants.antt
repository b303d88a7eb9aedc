use Rattle.xw_session.proofs.Naming.{AreLeft}
use Rattle.xw_session.proofs.lookup.are_lights.Given as goal

abbrev pub invariant-loop-named : goal.invariant-loop-named
invariant-loop-named g l = AreLeft (g.E.Feasible.state l.engine) l.fn.lights l.named-iterator
