use Rattle.std.proofs.Common.{◌≡◌, ◌++◌, false}
use Rattle.xw_session.specs.NamedSearch.{names_of}
use Rattle.xw_session.proofs.Naming.{AreLeft}
use Rattle.xw_session.proofs.lookup.names_of.Given as goal

abbrev pub invariant-loop-named : goal.invariant-loop-named
invariant-loop-named g l = record {
  left : AreLeft (g.E.Feasible.state l.engine) l.fn.lights l.named-iterator;
  names : l.is_short ≡ false → names_of l.fn.lights ≡ l.names.items ++ names_of l.named-iterator;
}
