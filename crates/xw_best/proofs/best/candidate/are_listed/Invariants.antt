use Rattle.std.proofs.Common.{◌≡◌, ◌<◌, ℕ, true, false}
use Rattle.xw_search.specs.Position.{position_of}
use Rattle.xw_search.specs.Listing.{is_unlisted}
use Rattle.xw_search.specs.NamedFill.{flags}
use Rattle.xw_best.proofs.best.candidate.are_listed.Given as goal

abbrev pub invariant-loop-light : goal.invariant-loop-light
invariant-loop-light g l = (k : ℕ) → k < l.light → flags l.flagged k ≡ true → is_unlisted (position_of (g.E.Feasible.state l.engine)) k ≡ false
