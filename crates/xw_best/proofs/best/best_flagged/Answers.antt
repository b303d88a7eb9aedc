use Rattle.std.proofs.Common.{◌≡◌, arith, sym, ap, ◌∙◌, subst, inl, inr}
use Rattle.std.specs.Prelude.{IfSome}
use Rattle.xw_feas.specs.State.{State}
use Rattle.xw_search.specs.NamedFill.{flags}
use Rattle.xw_best.specs.Best.{IsBest}
use Rattle.xw_best.specs.Inner.Climbing.{IsClimbing, IsIdle}
use Rattle.xw_best.specs.declared.best.Best.TheVariants.{Limit}
use Rattle.xw_best.proofs.ClimbLemmas.{no_limit}
use Rattle.xw_best.proofs.best.best_flagged.Goals as goal

pub returns-clause-ok : goal.returns-clause-ok
returns-clause-ok g c =
    let after = g.E.Feasible.state c.finish.new.engine in
    let same = c.in_ok-run.ensures.unchanged ∙ c.in_ok-climb.ensures.unchanged in
    let named = ap (λ plan. plan.named) (c.in_ok-run.ensures.climbed.plan ∙ c.in_ok-climb.ensures.plan) ∙ c.in_ok-plan.ensures.named in
    subst (λ vec. IsBest (flags vec.items) (g.E.Feasible.state c.args.engine.now) after c.finish.result) named
    (subst (λ (s : State). IsBest (flags c.run.new.self.prober.plan.named.items) s after c.finish.result) same c.finish.ensures.best)

pub returns-clause-counted : goal.returns-clause-counted
returns-clause-counted g c =
    let climbed = c.in_ok-run.ensures.climbed in
    let saved = g.E.Searchable.saved in
    let climb = c.in_ok-climb.climb in
    record {
      made = climbed.made;
      limit = climbed.limit;
      idle = λ none.
          let began : IsIdle saved climb = subst (λ f. IfSome f (λ grade. saved climb.best ≡ saved climb.start)) (sym c.in_ok-climb.ensures.none) tt in
          c.finish.ensures.idle (climbed.idle none began) ∙ c.in_ok-run.ensures.unchanged ∙ c.in_ok-climb.ensures.unchanged;
    }

pub returns-clause-one : goal.returns-clause-one
returns-clause-one g c =
    let began = c.in_ok-climb.ensures in
    let ran = c.in_ok-run.ensures in
    let saved = g.E.Searchable.saved in
    let start = g.E.Feasible.state c.args.engine.now in
    let named = ap (λ plan. plan.named) began.plan ∙ c.in_ok-plan.ensures.named in
    record {
      first = c.in_ok-climb.climb;
      last = c.run.new.self;
      began = began.climbing;
      lights = λ light in_grid. ap (λ vec. flags vec.items light) named;
      empty = began.none;
      own = began.counted;
      climbed = ran.climbed;
      ended = subst (IsClimbing saved c.run.new.self) (ran.unchanged ∙ began.unchanged) ran.climbing;
      answer = c.finish.ensures.found;
      entered = c.finish.ensures.entered;
    }

pub returns-clause-limit : goal.returns-clause-limit
returns-clause-limit g c bound is =
    let climb = c.run.new.self in
    let told : c.finish.result ≡ Limit bound = cc in
    elim c.in_ok-run.ensures.ended [
      | inl spent ↦ spent
      | inr over ↦ absurd (no_limit climb.found climb.prober.least climb.bound bound over (sym c.finish.ensures.found ∙ told))
    ]

pub returns-clause-within : goal.returns-clause-within
returns-clause-within g c = omega (arith, c.in_ok-run.ensures.within, c.finish.ensures.count, c.in_ok-climb.ensures.count, c.in_ok-climb.ensures.tries)
