use Rattle.std.proofs.Common.{◌≡◌, map}
use Rattle.xw_search.specs.Position.{position_of, name_at}
use Rattle.xw_search.specs.Below.{those_below}
use Rattle.xw_search.specs.Listing.{is_unlisted}
use Rattle.xw_search.proofs.listing.unlisted.Given as goal

abbrev pub invariant-loop-light : goal.invariant-loop-light
invariant-loop-light g l = l.lights.items ≡ map (name_at (g.E.Feasible.state l.engine)) (those_below (is_unlisted (position_of (g.E.Feasible.state l.engine))) l.light)
