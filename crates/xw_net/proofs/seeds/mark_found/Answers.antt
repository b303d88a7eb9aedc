use Rattle.std.proofs.Common.{◌≡◌, ◌<◌, ℕ, length, subst, sym, ap, ◌∙◌}
use Rattle.std.specs.Prelude.{IfSome, Some, unwrap_or}
use Rattle.xw_net.proofs.Lists.ListsOfLights.{adds_insert, adds_none, adds_as}
use Rattle.xw_net.proofs.seeds.mark_found.Goals as goal

same_light : (a b : ℕ) → Some a ≡ Some b → b ≡ a
same_light a b h = ap (λ o. unwrap_or o a) (sym h)

pub returns-in-Some : goal.returns-in-Some
returns-in-Some c =
    let lt : c.in-Some.light < length c.args.list.now.marks = subst (λ o. IfSome o (λ light. light < length c.args.list.now.marks)) c.in-Some.is c.requires in
    adds_as (λ light. light ≡ c.in-Some.light) (λ light. c.args.found ≡ Some light) c.args.list.now c.insert.new.self
    (λ light e. c.in-Some.is ∙ ap (λ l. Some l) (sym e)) (λ light e. same_light c.in-Some.light light (sym c.in-Some.is ∙ e))
    (adds_insert c.args.list.now c.insert.new.self c.in-Some.light lt c.insert.ensures.marks c.insert.ensures.grows)

pub returns-in_default : goal.returns-in_default
returns-in_default c = adds_none (λ light. c.args.found ≡ Some light) c.args.list.now (λ light e. c.in_default.not-Some light e)
