use Rattle.std.proofs.Common.{◌≡◌, ◌<◌, ℕ, false, get_or}
use Rattle.xw_search.specs.Position.{position_of}
use Rattle.xw_search.specs.NamedFill.{flags}
use Rattle.xw_search.specs.Progress.{is_target}
use Rattle.xw_search.proofs.plan.has_target.Given as goal

abbrev pub invariant-loop-pos : goal.invariant-loop-pos
invariant-loop-pos g l = (k : ℕ) → k < l.pos → is_target (flags l.named) (position_of (g.E.Feasible.state l.engine)) (get_or l.cells k 0) ≡ false
