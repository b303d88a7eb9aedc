use Rattle.std.proofs.Common.{◌≡◌, ◌<◌, ◌+◌, subst, inl, inr, arith}
use Rattle.std.proofs.lemmas.Bool.{cases_eq}
use Rattle.xw_net.specs.Worklist.{Adds}
use Rattle.xw_net.proofs.Lists.ListsOfLights.{adds_none, adds_more, adds_insert}
use Rattle.xw_net.proofs.seeds.mark_all.Goals as goal

pub loop-light-init : goal.loop-light-init
loop-light-init c = adds_none (λ light. light < 0) c.args.chain.now (λ light lt. omega (arith, lt))

pub loop-light-preserved : goal.loop-light-preserved
loop-light-preserved c =
    let n = c.loop-light.light in
    adds_more (λ light. light < c.loop-light.light) (λ light. light ≡ c.loop-light.light) (λ light. light < c.loop-light.light + 1) c.args.chain.now c.loop-light.chain c.insert.new.self
    (λ light lt. omega (arith, lt)) (λ light e. omega (arith, e)) (λ light lt. elim (cases_eq light c.loop-light.light) [ inl e ↦ inr e | inr n ↦ inl (omega (arith, lt, n)) ])
    c.loop-light.invariant
    (adds_insert c.loop-light.chain c.insert.new.self n (omega (arith, c.requires, c.loop-light-test.true, c.light_count-light-end.ensures, c.loop-light.invariant.grows.size)) c.insert.ensures.marks c.insert.ensures.grows)

pub returns : goal.returns
returns c = subst (λ n. Adds (λ light. light < n) c.args.chain.now c.loop-light.chain) (omega (arith, c.loop-light-test.false, c.loop-light.auto.light-end, c.light_count-light-end.ensures)) c.loop-light.invariant
