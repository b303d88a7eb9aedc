use Rattle.xw_search.specs.Position.{position_of}
use Rattle.std.proofs.Common.{◌≡◌, None}
use Rattle.xw_search.specs.Below.{first_below}
use Rattle.xw_search.specs.Lights.{lacks_words}
use Rattle.xw_fill.proofs.scan.first_without_words.Given as goal

abbrev pub invariant-loop-light : goal.invariant-loop-light
invariant-loop-light g l = first_below (lacks_words (position_of (g.E.Feasible.state l.engine))) l.light ≡ None
