use Rattle.std.proofs.Common.{◌≡◌}
use Rattle.xw_search.specs.Listing.{duplicates_below}
use Rattle.xw_search.proofs.listing.duplicates.Given as goal

abbrev pub invariant-loop-light : goal.invariant-loop-light
invariant-loop-light g l = l.found.items ≡ duplicates_below (g.E.Feasible.state l.engine) l.light
