use Rattle.std.proofs.Common.{sym, ap, subst, ◌∙◌}
use Rattle.xw_search.specs.NamedFill.{flags}
use Rattle.xw_best.specs.Best.{IsFilledAt}
use Rattle.xw_best.specs.Inner.Climbing.{IsClimbing, IsProbed, IsOffered, grade_sum}
use Rattle.xw_feas.specs.Snapshot.{CanSave}
use Rattle.xw_best.proofs.ClimbLemmas.{probed, known_probed, same_grade}
use Rattle.xw_best.proofs.best.climb.Climb.try_known.Goals as goal

pub offer-requires-clause-climbing : goal.offer-requires-clause-climbing
offer-requires-clause-climbing g c =
    let saved = g.E.Searchable.saved in
    let climb = c.args.self.now in
    let start = g.E.Feasible.state c.args.engine.now in
    subst (IsClimbing saved (record climb { prober = c.try_known.new.self })) (sym c.requires.climbing.began) (probed saved climb climb c.try_known.new.self start c.requires.climbing c.try_known.ensures.prober c.try_known.ensures.plan c.try_known.ensures.fresh)

pub offer-requires-clause-filled : goal.offer-requires-clause-filled
offer-requires-clause-filled g c =
    let climb = c.args.self.now in
    let start = g.E.Feasible.state c.args.engine.now in
    let after = g.E.Feasible.state c.try_known.new.engine in
    let is = known_probed g.E.Searchable.saved climb c.try_known.new.self start after c.in-Ok.probe c.requires.climbing c.try_known.ensures.plan c.in-Ok.ensures.ok in
    (subst (IsProbed (flags c.try_known.new.self.plan.named.items) (g.E.Searchable.saved climb.start) climb.prober.least after) c.in-Filled.is is).1

pub returns-in-Filled-clause-offered : goal.returns-in-Filled-clause-offered
returns-in-Filled-clause-offered g c worst told =
    let saved = g.E.Searchable.saved in
    let climb = c.args.self.now in
    let start = g.E.Feasible.state c.args.engine.now in
    let after = g.E.Feasible.state c.try_known.new.engine in
    let named = flags climb.prober.plan.named.items in
    let found = subst (IsProbed named start climb.prober.least after) c.in-Filled.is c.in-Ok.ensures.ok in
    let same = same_grade c.in-Filled.grade worst (sym (ap (λ p. p.last.value) c.offer.ensures.prober ∙ c.in-Ok.ensures.last ∙ c.in-Filled.is) ∙ told) in
    let total = ap (λ vec. grade_sum (flags vec.items) after) c.try_known.ensures.fresh in (
      after,
      subst (λ s. IsFilledAt named s after worst) (sym c.requires.climbing.began) (subst (λ n. IsFilledAt named start after n) same found.1),
      subst (λ n. IsOffered saved climb c.offer.new.self after n (grade_sum (flags climb.prober.fresh.items) after)) same (subst (λ n. IsOffered saved climb c.offer.new.self after c.in-Filled.grade n) total c.offer.ensures.offered),
    )

pub go_back-requires : goal.go_back-requires
go_back-requires g c = subst (λ s. CanSave s (g.E.Feasible.state c.try_known.new.engine)) (sym c.requires.climbing.began) c.try_known.ensures.saved
