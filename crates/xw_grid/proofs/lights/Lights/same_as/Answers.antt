use Rattle.std.proofs.Common.{sym, ◌∙◌}
use Rattle.xw_grid.proofs.LookupLemmas.{lights_are_good, like_nowhere, like_other, like_there}
use Rattle.xw_grid.proofs.lights.Lights.same_as.Goals as goal

pub returns-in_err-index : goal.returns-in_err-index
returns-in_err-index c =
    let lights = c.args.self.now in
    let good = lights_are_good c.self.invariant.grid lights (sym c.self.view_is ∙ c.self.invariant.whole) in
    c.from_residual.ensures ∙ like_nowhere lights good c.args.light.now c.requires (sym c.through.ensures ∙ c.in_err-index.was)

pub returns-then-is_like : goal.returns-then-is_like
returns-then-is_like c =
    let lights = c.args.self.now in
    let good = lights_are_good c.self.invariant.grid lights (sym c.self.view_is ∙ c.self.invariant.whole) in
    like_there lights good c.args.light.now c.requires c.in_ok-index.index (sym c.through.ensures ∙ c.in_ok-index.was) (sym c.is_like.ensures ∙ c.if-is_like.true)

pub returns-else-is_like : goal.returns-else-is_like
returns-else-is_like c =
    let lights = c.args.self.now in
    let good = lights_are_good c.self.invariant.grid lights (sym c.self.view_is ∙ c.self.invariant.whole) in
    like_other lights good c.args.light.now c.requires c.in_ok-index.index (sym c.through.ensures ∙ c.in_ok-index.was) (sym c.is_like.ensures ∙ c.if-is_like.false)
