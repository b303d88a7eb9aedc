use Rattle.std.proofs.Common.{◌≡◌, ℕ, ◌∙◌, true, false, sym, inl, inr}
use Rattle.std.specs.Prelude.{Option, Some, None, IfNone, is_some}
use Rattle.xw_bits.proofs.Summaries.{if_none}
use Rattle.xw_net.proofs.net.Net.dead_through.Goals as goal

if_empty : (o : Option ℕ) {X : Type 0} → is_some o ≡ false → IfNone o X → X
if_empty None is found = found
if_empty (Some light) is found = let never : true ≡ false = is in cc

pub returns-clause-none : goal.returns-clause-none
returns-clause-none c = if_none c.dead_of.result (λ second light passes watched. elim (c.lights_at-across.ensures.only light passes) [
  | inl across ↦ if_empty c.dead_of-dead.result (sym c.is_some.ensures ∙ c.if-is_some.false) c.dead_of-dead.ensures.none light across watched
  | inr down ↦ second light down watched
]) c.dead_of.ensures.none
