use Rattle.std.proofs.Common.{ap, arith, sym, ◌∙◌, refl, subst}
use Rattle.std.specs.Prelude.{Ok}
use Rattle.xw_feas.specs.Count.{number}
use Rattle.xw_feas.specs.Snapshot.{CanSave}
use Rattle.xw_search.specs.NamedFill.{flags}
use Rattle.xw_best.specs.Inner.Climbing.{IsClimbing, IsProbed, grade_above, grade_sum}
use Rattle.xw_best.specs.Best.{HasNoneAt, IsFilledAt}
use Rattle.xw_search.specs.declared.allowance.Allowance.{Allowance}
use Rattle.xw_search.specs.declared.plan.Plan.{Plan}
use Rattle.xw_best.specs.declared.best.probe.Prober.{Prober}
use Rattle.xw_best.proofs.ClimbLemmas.{probed, bounded, climbed_same, climbed_bound, climbed_offered, climbed-then, offered_found, next_above}
use Rattle.xw_best.proofs.best.climb.Climb.step.Goals as goal

pub go_back-requires : goal.go_back-requires
go_back-requires g c = subst (λ s. CanSave s (g.E.Feasible.state c.probe-probe.new.engine)) (sym c.requires.climbing.began) c.probe-probe.ensures.saved

pub go_back-requires-in-NoFill : goal.go_back-requires-in-NoFill
go_back-requires-in-NoFill g c = subst (λ s. CanSave s (g.E.Feasible.state c.probe-probe.new.engine)) (sym c.requires.climbing.began) c.probe-probe.ensures.saved

pub go_back-requires-in-Limit : goal.go_back-requires-in-Limit
go_back-requires-in-Limit g c = subst (λ s. CanSave s (g.E.Feasible.state c.probe-probe.new.engine)) (sym c.requires.climbing.began) c.probe-probe.ensures.saved

pub returns-in_default-clause-climbing : goal.returns-in_default-clause-climbing
returns-in_default-clause-climbing g c =
    let saved = g.E.Searchable.saved in
    let climb = c.args.self.now in
    let start = g.E.Feasible.state c.args.engine.now in
    subst (IsClimbing saved c.go_back.new.self) (sym (c.go_back.ensures.back ∙ c.requires.climbing.began))
    (c.go_back.ensures.climbing start (probed saved climb (record climb { counted = c.of.result }) c.probe-probe.new.self start c.requires.climbing c.probe-probe.ensures.prober c.probe-probe.ensures.plan c.probe-probe.ensures.fresh))

pub returns-in_default-clause-unchanged : goal.returns-in_default-clause-unchanged
returns-in_default-clause-unchanged g c = c.go_back.ensures.back ∙ c.requires.climbing.began

pub returns-in_default-clause-climbed : goal.returns-in_default-clause-climbed
returns-in_default-clause-climbed g c =
    let back = c.go_back.ensures in
    climbed_same g.E.Searchable.saved c.args.self.now c.go_back.new.self c.args.allowance.now c.probe-probe.new.allowance
    (ap (λ (p : Prober). p.plan) back.prober ∙ c.probe-probe.ensures.plan) (ap (λ (p : Prober). p.least) back.prober ∙ c.probe-probe.ensures.least) back.found back.sum back.bound (ap g.E.Searchable.saved back.best) back.start
    c.probe-probe.ensures.made c.probe-probe.ensures.total (ap (λ s. s.value.made) back.counted ∙ ap (λ (a : Allowance). a.made) c.of.ensures)

pub returns-in_default-clause-within : goal.returns-in_default-clause-within
returns-in_default-clause-within g c = omega (arith, c.probe-probe.ensures.within, c.probe-probe.ensures.tries, c.go_back.ensures.count, ap (λ (p : Prober). number p.tries) c.go_back.ensures.prober)

pub returns-in-NoFill-clause-climbing : goal.returns-in-NoFill-clause-climbing
returns-in-NoFill-clause-climbing g c =
    let saved = g.E.Searchable.saved in
    let climb = c.args.self.now in
    let start = g.E.Feasible.state c.args.engine.now in
    let back = c.go_back-in-NoFill in
    let none = subst (IsProbed (flags climb.prober.plan.named.items) start c.args.grade (g.E.Feasible.state c.probe-probe.new.engine)) c.in-NoFill.is c.in-Ok.ensures.ok in
    let climbing = back.ensures.climbing start (probed saved climb (record climb { counted = c.of.result }) c.probe-probe.new.self start c.requires.climbing c.probe-probe.ensures.prober c.probe-probe.ensures.plan c.probe-probe.ensures.fresh) in
    let there = subst (λ (plan : Plan). HasNoneAt (flags plan.named.items) start c.args.grade) (sym (ap (λ (p : Prober). p.plan) back.ensures.prober ∙ c.probe-probe.ensures.plan)) none in
    subst (IsClimbing saved _) (sym (back.ensures.back ∙ c.requires.climbing.began)) (bounded saved back.new.self c.args.grade start climbing (omega (arith, c.requires.below, c.requires.climbing.bound.within)) there)

pub returns-in-NoFill-clause-unchanged : goal.returns-in-NoFill-clause-unchanged
returns-in-NoFill-clause-unchanged g c = c.go_back-in-NoFill.ensures.back ∙ c.requires.climbing.began

pub returns-in-NoFill-clause-climbed : goal.returns-in-NoFill-clause-climbed
returns-in-NoFill-clause-climbed g c =
    let saved = g.E.Searchable.saved in
    let now = c.go_back-in-NoFill.new.self in
    let back = c.go_back-in-NoFill.ensures in
    let from = c.args.allowance.now in
    let to = c.probe-probe.new.allowance in
    let counted = ap (λ s. s.value.made) back.counted ∙ ap (λ (a : Allowance). a.made) c.of.ensures in
    climbed-then saved c.args.self.now now _ from to to
    (climbed_same saved c.args.self.now now from to (ap (λ (p : Prober). p.plan) back.prober ∙ c.probe-probe.ensures.plan) (ap (λ (p : Prober). p.least) back.prober ∙ c.probe-probe.ensures.least) back.found back.sum back.bound (ap saved back.best) back.start
    c.probe-probe.ensures.made c.probe-probe.ensures.total counted)
    (climbed_bound saved now c.args.grade to to (omega (arith, back.bound, c.requires.below)) (omega arith) refl counted)

pub returns-in-NoFill-clause-within : goal.returns-in-NoFill-clause-within
returns-in-NoFill-clause-within g c = omega (arith, c.probe-probe.ensures.within, c.probe-probe.ensures.tries, c.go_back-in-NoFill.ensures.count, ap (λ (p : Prober). number p.tries) c.go_back-in-NoFill.ensures.prober)

pub returns-in-Limit-clause-climbing : goal.returns-in-Limit-clause-climbing
returns-in-Limit-clause-climbing g c =
    let saved = g.E.Searchable.saved in
    let climb = c.args.self.now in
    let start = g.E.Feasible.state c.args.engine.now in
    subst (IsClimbing saved c.go_back-in-Limit.new.self) (sym (c.go_back-in-Limit.ensures.back ∙ c.requires.climbing.began))
    (c.go_back-in-Limit.ensures.climbing start (probed saved climb (record climb { counted = c.of.result }) c.probe-probe.new.self start c.requires.climbing c.probe-probe.ensures.prober c.probe-probe.ensures.plan c.probe-probe.ensures.fresh))

pub returns-in-Limit-clause-unchanged : goal.returns-in-Limit-clause-unchanged
returns-in-Limit-clause-unchanged g c = c.go_back-in-Limit.ensures.back ∙ c.requires.climbing.began

pub returns-in-Limit-clause-climbed : goal.returns-in-Limit-clause-climbed
returns-in-Limit-clause-climbed g c =
    let back = c.go_back-in-Limit.ensures in
    climbed_same g.E.Searchable.saved c.args.self.now c.go_back-in-Limit.new.self c.args.allowance.now c.probe-probe.new.allowance
    (ap (λ (p : Prober). p.plan) back.prober ∙ c.probe-probe.ensures.plan) (ap (λ (p : Prober). p.least) back.prober ∙ c.probe-probe.ensures.least) back.found back.sum back.bound (ap g.E.Searchable.saved back.best) back.start
    c.probe-probe.ensures.made c.probe-probe.ensures.total (ap (λ s. s.value.made) back.counted ∙ ap (λ (a : Allowance). a.made) c.of.ensures)

pub returns-in-Limit-clause-within : goal.returns-in-Limit-clause-within
returns-in-Limit-clause-within g c = omega (arith, c.probe-probe.ensures.within, c.probe-probe.ensures.tries, c.go_back-in-Limit.ensures.count, ap (λ (p : Prober). number p.tries) c.go_back-in-Limit.ensures.prober)

pub offer-requires-clause-climbing : goal.offer-requires-clause-climbing
offer-requires-clause-climbing g c =
    let saved = g.E.Searchable.saved in
    let climb = c.args.self.now in
    let start = g.E.Feasible.state c.args.engine.now in
    subst (IsClimbing saved (record climb { prober = c.probe-probe.new.self; counted = c.of.result })) (sym c.requires.climbing.began) (probed saved climb (record climb { counted = c.of.result }) c.probe-probe.new.self start c.requires.climbing c.probe-probe.ensures.prober c.probe-probe.ensures.plan c.probe-probe.ensures.fresh)

pub offer-requires-clause-filled : goal.offer-requires-clause-filled
offer-requires-clause-filled g c =
    let climb = c.args.self.now in
    let start = g.E.Feasible.state c.args.engine.now in
    let after = g.E.Feasible.state c.probe-probe.new.engine in
    let is = subst (IsProbed (flags climb.prober.plan.named.items) start c.args.grade after) c.in-Filled.is c.in-Ok.ensures.ok in
    subst (λ state. IsFilledAt (flags c.probe-probe.new.self.plan.named.items) state after c.in-Filled.found) (sym c.requires.climbing.began)
    (subst (λ (plan : Plan). IsFilledAt (flags plan.named.items) start after c.in-Filled.found) (sym c.probe-probe.ensures.plan) is.1)

pub returns-in-Filled-clause-unchanged : goal.returns-in-Filled-clause-unchanged
returns-in-Filled-clause-unchanged g c = c.offer.ensures.back ∙ c.requires.climbing.began

pub returns-in-Filled-clause-climbed : goal.returns-in-Filled-clause-climbed
returns-in-Filled-clause-climbed g c =
    let saved = g.E.Searchable.saved in
    let climb = c.args.self.now in
    let probed = record climb { prober = c.probe-probe.new.self } in
    let from = c.args.allowance.now in
    let to = c.probe-probe.new.allowance in
    let start = g.E.Feasible.state c.args.engine.now in
    let after = g.E.Feasible.state c.probe-probe.new.engine in
    let is = subst (IsProbed (flags climb.prober.plan.named.items) start c.args.grade after) c.in-Filled.is c.in-Ok.ensures.ok in
    let served = c.probe-probe.ensures in
    let above = next_above (flags climb.prober.plan.named.items) start (saved climb.best) climb.found climb.prober.least c.requires.climbing.prober.least c.requires.climbing.found in
    let back = c.offer.ensures.climbing.began ∙ c.offer.ensures.back in
    climbed-then saved climb probed c.offer.new.self from from to (climbed_same saved climb probed from from c.probe-probe.ensures.plan c.probe-probe.ensures.least refl refl refl refl refl (omega arith) refl c.requires.counted)
    (climbed_offered saved probed c.offer.new.self after c.in-Filled.found (grade_sum (flags c.probe-probe.new.self.fresh.items) after) from to c.offer.ensures.offered (omega (arith, is.0, c.requires.new, above, c.probe-probe.ensures.least))
    c.offer.ensures.prober c.offer.ensures.bound back served.made served.total (ap (λ s. s.value.made) c.offer.ensures.counted ∙ ap (λ (a : Allowance). a.made) c.of.ensures) (λ none. served.idle c.in-Filled.found (c.in-Ok.is ∙ ap Ok c.in-Filled.is) none ∙ sym c.requires.climbing.began))

pub returns-in-Filled-clause-taken : goal.returns-in-Filled-clause-taken
returns-in-Filled-clause-taken g c =
    let climb = c.args.self.now in
    let start = g.E.Feasible.state c.args.engine.now in
    let after = g.E.Feasible.state c.probe-probe.new.engine in
    let is = subst (IsProbed (flags climb.prober.plan.named.items) start c.args.grade after) c.in-Filled.is c.in-Ok.ensures.ok in
    let next = ap (grade_above climb.found) c.probe-probe.ensures.least in
    (offered_found g.E.Searchable.saved (record climb { prober = c.probe-probe.new.self }) c.offer.new.self after c.in-Filled.found (grade_sum (flags c.probe-probe.new.self.fresh.items) after) c.offer.ensures.offered (omega (arith, is.0, c.requires.new, next)), c.offer.ensures.bound)

pub returns-in-Filled-clause-within : goal.returns-in-Filled-clause-within
returns-in-Filled-clause-within g c = omega (arith, c.probe-probe.ensures.within, c.probe-probe.ensures.tries, c.offer.ensures.count, ap (λ p. number p.tries) c.offer.ensures.prober)
