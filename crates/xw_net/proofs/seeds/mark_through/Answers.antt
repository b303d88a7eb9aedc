use Rattle.std.proofs.Common.{◌≡◌, ℕ, subst}
use Rattle.std.specs.Prelude.{IfSome, Option, Some}
use Rattle.xw_feas.specs.Passes.{Passes}
use Rattle.xw_net.specs.Spread.{IsThrough}
use Rattle.xw_net.proofs.Lists.ListsOfLights.{adds_more}
use Rattle.xw_net.proofs.seeds.mark_through.Goals as goal

-- a light that was found has the property of those that are found
found_is : (P : ℕ → Type 0) (found : Option ℕ) (light : ℕ) → IfSome found P → found ≡ Some light → P light
found_is P found light h is = subst (λ o. IfSome o P) is h

pub returns : goal.returns
returns c =
    let through : (light : ℕ) → Passes c.args.board.now c.args.cell light → IsThrough c.args.board.now c.args.cell light = λ light passes. (passes.1.0, (passes.0, passes.1.1), passes.1.2) in
    adds_more (λ light. c.lights_at-across.result.0 ≡ Some light) (λ light. c.lights_at-across.result.1 ≡ Some light) (IsThrough c.args.board.now c.args.cell) c.args.list.now c.mark_found.new.list c.mark_found-2.new.list
    (λ light is. through light (found_is (Passes c.args.board.now c.args.cell) _ light c.lights_at-across.ensures.across is))
    (λ light is. through light (found_is (Passes c.args.board.now c.args.cell) _ light c.lights_at-across.ensures.down is))
    (λ light is. c.lights_at-across.ensures.only light (is.1.0, (is.0, is.1.1, is.2)))
    c.mark_found.ensures c.mark_found-2.ensures
