use Rattle.std.proofs.Common.{◌≡◌, ◌<◌, ℕ, true, false}
use Rattle.xw_search.specs.Position.{position_of}
use Rattle.xw_search.specs.Lights.{lacks_words}
use Rattle.xw_search.specs.NamedFill.{flags}
use Rattle.xw_search.proofs.checks.first_dead.Given as goal

abbrev pub invariant-loop-light : goal.invariant-loop-light
invariant-loop-light g l = (k : ℕ) → k < l.light → flags l.watched k ≡ true → lacks_words (position_of (g.E.Feasible.state l.engine)) k ≡ false
