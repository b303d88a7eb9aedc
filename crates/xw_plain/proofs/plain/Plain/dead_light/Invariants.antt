use Rattle.std.proofs.Common.{◌≡◌, ℕ, ◌<◌, get_or, true, false}
use Rattle.xw_feas.specs.Trying.{IsDeadLight}
use Rattle.xw_plain.specs.Plain.{state_of}
use Rattle.xw_plain.proofs.plain.Plain.dead_light.Given as goal

-- no watched light before is dead
abbrev pub invariant-loop-light : goal.invariant-loop-light
invariant-loop-light l = (light : ℕ) → light < l.light → get_or l.watched light false ≡ true → IsDeadLight (state_of l.self) light → ⊥
