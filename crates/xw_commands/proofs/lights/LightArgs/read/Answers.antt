use Rattle.std.proofs.Common.{◌≡◌, List, ℕ, Ok, sym, ◌∙◌, subst}
use Rattle.xw_commands.specs.Reading.{lights, lights_first}
use Rattle.xw_commands.proofs.LightLists.{shortens_if_some, left_if_some, all_read}
use Rattle.xw_commands.proofs.lights.LightArgs.read.Goals as goal

pub loop-smaller : goal.loop-smaller
loop-smaller c = shortens_if_some c.loop.words c.named_if_any.new.self c.named_if_any.result c.named_if_any.ensures.some (sym c.is_some.ensures ∙ c.loop-test.true)

pub loop-preserved : goal.loop-preserved
loop-preserved c = c.loop.invariant ∙ left_if_some c.loop.words c.named_if_any.new.self c.named_if_any.result c.named_if_any.ensures.some (sym c.is_some.ensures ∙ c.loop-test.true)

pub returns : goal.returns
returns c =
    subst (λ (start : List ℕ). lights c.args.words.now ≡ Ok ((lights_first start).0, c.named_if_any.new.self)) (sym c.copy.ensures)
    (all_read c.args.words.now c.loop.words c.named_if_any.new.self c.named_if_any.result c.loop.invariant c.named_if_any.ensures.none c.named_if_any.ensures.left (sym c.is_some.ensures ∙ c.loop-test.false))
