use Rattle.std.proofs.Common.{◌≡◌, ◌<◌, ◌≤◌, ℕ, length, sym, ap, ◌∙◌, subst}
use Rattle.std.specs.Prelude.{Ok}
use Rattle.xw_feas.specs.State.{State}
use Rattle.xw_search.specs.Position.{Position, position_of}
use Rattle.xw_search.specs.Lights.{light_count}
use Rattle.xw_search.specs.NamedFill.{flags}
use Rattle.xw_best.specs.Best.{at_least}
use Rattle.xw_best.specs.Inner.Climbing.{AreFresh}
use Rattle.xw_search.specs.Progress.{IsPlan, is_watched}
use Rattle.xw_search.proofs.LetterSearch.{position_at}
use Rattle.xw_best.proofs.GradeLemmas.{plan_at, found_at, none_at, back_at, filling_saved, saved_at, saved_found, active_now, alive_now, filled_now}
use Rattle.xw_best.proofs.best.probe.Prober.probe.Goals as goal

pub fill_planned-requires : goal.fill_planned-requires
fill_planned-requires g c =
    record { plan = subst (λ (s : State). IsPlan (position_of s) c.args.self.now.plan) (sym c.choose_least.ensures.state) (plan_at (g.E.Feasible.state c.args.engine.now) c.args.grade c.args.self.now.plan c.requires.prober.plan) }

pub greatest_grade-found-requires-clause-watched : goal.greatest_grade-found-requires-clause-watched
greatest_grade-found-requires-clause-watched g c =
    let before = g.E.Feasible.state c.args.engine.now in
    let now = g.E.Feasible.state c.fill_planned.new.engine in
    let found = found_at (flags c.args.self.now.plan.named.items) before (g.E.Feasible.state c.choose_least.new.engine) now c.args.grade c.fill_planned.result c.choose_least.ensures.state (c.in_ok-filling.was ∙ ap Ok c.in-Filled.is) c.fill_planned.ensures.entered in
    ap length c.as_slice-watched.ensures.value ∙ c.requires.prober.plan.watched.long ∙ sym (ap (λ (p : Position). light_count p) (position_at (at_least before c.args.grade) now found.1))

pub greatest_grade-found-requires-clause-fresh : goal.greatest_grade-found-requires-clause-fresh
greatest_grade-found-requires-clause-fresh g c =
    let before = g.E.Feasible.state c.args.engine.now in
    let now = g.E.Feasible.state c.fill_planned.new.engine in
    let found = found_at (flags c.args.self.now.plan.named.items) before (g.E.Feasible.state c.choose_least.new.engine) now c.args.grade c.fill_planned.result c.choose_least.ensures.state (c.in_ok-filling.was ∙ ap Ok c.in-Filled.is) c.fill_planned.ensures.entered in
    ap length c.as_slice-fresh.ensures.value ∙ c.requires.prober.fresh.long ∙ sym (ap (λ (p : Position). light_count p) (position_at (at_least before c.args.grade) now found.1))

pub greatest_grade-found-requires-clause-active : goal.greatest_grade-found-requires-clause-active
greatest_grade-found-requires-clause-active g c =
    let before = g.E.Feasible.state c.args.engine.now in
    let now = g.E.Feasible.state c.fill_planned.new.engine in
    let plan = c.args.self.now.plan in
    let found = found_at (flags plan.named.items) before (g.E.Feasible.state c.choose_least.new.engine) now c.args.grade c.fill_planned.result c.choose_least.ensures.state (c.in_ok-filling.was ∙ ap Ok c.in-Filled.is) c.fill_planned.ensures.entered in
    let fresh = subst (AreFresh (position_of before)) (sym c.as_slice-fresh.ensures.value) c.requires.prober.fresh in
    active_now plan.named.items c.as_slice-fresh.result.now plan.watched.items before now c.args.grade fresh c.requires.prober.plan.watched.are found.0 found.1 c.args.grade found.0

pub greatest_grade-found-requires-clause-alive : goal.greatest_grade-found-requires-clause-alive
greatest_grade-found-requires-clause-alive g c =
    let before = g.E.Feasible.state c.args.engine.now in
    let now = g.E.Feasible.state c.fill_planned.new.engine in
    let plan = c.args.self.now.plan in
    let found = found_at (flags plan.named.items) before (g.E.Feasible.state c.choose_least.new.engine) now c.args.grade c.fill_planned.result c.choose_least.ensures.state (c.in_ok-filling.was ∙ ap Ok c.in-Filled.is) c.fill_planned.ensures.entered in
    let are : (light : ℕ) → light < light_count (position_of before) → flags c.as_slice-watched.result.now light ≡ is_watched (flags plan.named.items) (position_of before) light =
    λ light in_grid. ap (λ list. flags list light) c.as_slice-watched.ensures.value ∙ c.requires.prober.plan.watched.are light in_grid in
    let fresh = subst (AreFresh (position_of before)) (sym c.as_slice-fresh.ensures.value) c.requires.prober.fresh in
    alive_now plan.named.items c.as_slice-fresh.result.now c.as_slice-watched.result.now before now c.args.grade fresh are found.0 found.1 c.args.grade found.0

pub returns-in-Filled-clause-ok : goal.returns-in-Filled-clause-ok
returns-in-Filled-clause-ok g c =
    let before = g.E.Feasible.state c.args.engine.now in
    let made = g.E.Feasible.state c.choose_least.new.engine in
    let now = g.E.Feasible.state c.fill_planned.new.engine in
    let after = g.E.Feasible.state c.choose_least-in-Filled.new.engine in
    let rest = g.E.Feasible.state c.greatest_grade-found.new.engine in
    let plan = c.args.self.now.plan in
    let named = flags plan.named.items in
    let formed = g.met.E.Feasible.well_formed c.args.engine.now in
    let found = found_at named before made now c.args.grade c.fill_planned.result c.choose_least.ensures.state (c.in_ok-filling.was ∙ ap Ok c.in-Filled.is) c.fill_planned.ensures.entered in
    let are : (light : ℕ) → light < light_count (position_of before) → flags c.as_slice-watched.result.now light ≡ is_watched named (position_of before) light =
    λ light in_grid. ap (λ list. flags list light) c.as_slice-watched.ensures.value ∙ c.requires.prober.plan.watched.are light in_grid in
    let back : after ≡ at_least rest before.words.least = c.choose_least-in-Filled.ensures.state ∙ ap (λ n. at_least rest n) c.requires.prober.least in
    let fresh = subst (AreFresh (position_of before)) (sym c.as_slice-fresh.ensures.value) c.requires.prober.fresh in
    let graded = c.greatest_grade-found.ensures in (
      graded.above,
      filled_now plan.named.items c.as_slice-fresh.result.now c.as_slice-watched.result.now before now c.args.grade fresh are found.0 found.1 rest after c.greatest_grade-found.result formed graded.state back
          (subst (λ n. n ≤ c.args.grade) c.requires.prober.least c.requires.above) graded.above graded.graded graded.active graded.alive graded.greatest,
    )

pub returns-in-NoFill-clause-ok : goal.returns-in-NoFill-clause-ok
returns-in-NoFill-clause-ok g c =
    none_at (flags c.args.self.now.plan.named.items) (g.E.Feasible.state c.args.engine.now) (g.E.Feasible.state c.choose_least.new.engine) (g.E.Feasible.state c.fill_planned.new.engine) c.args.grade c.fill_planned.result c.choose_least.ensures.state (c.in_ok-filling.was ∙ ap Ok c.in-NoFill.is) c.fill_planned.ensures.ok

pub returns-in-Filled-clause-idle : goal.returns-in-Filled-clause-idle
returns-in-Filled-clause-idle g c least told none =
    let before = g.E.Feasible.state c.args.engine.now in
    let now = g.E.Feasible.state c.fill_planned.new.engine in
    let kept : now ≡ at_least before c.args.grade = c.fill_planned.ensures.counted.idle none ∙ c.choose_least.ensures.state in
    back_at before now (g.E.Feasible.state c.choose_least-in-Filled.new.engine) c.args.grade c.args.self.now.least (g.met.E.Feasible.well_formed c.args.engine.now) c.requires.prober.least kept
    (c.choose_least-in-Filled.ensures.state ∙ c.greatest_grade-found.ensures.state c.args.self.now.least)

pub returns-in_err-filling-clause-saved : goal.returns-in_err-filling-clause-saved
returns-in_err-filling-clause-saved g c =
    let before = g.E.Feasible.state c.args.engine.now in
    let made = g.E.Feasible.state c.choose_least.new.engine in
    let now = g.E.Feasible.state c.fill_planned.new.engine in
    let done = c.fill_planned.ensures in
    saved_at before made now c.args.grade c.choose_least.ensures.state (filling_saved (flags c.args.self.now.plan.named.items) made now c.fill_planned.result done.entered done.ok done.unchanged)

pub returns-in-NoFill-clause-saved : goal.returns-in-NoFill-clause-saved
returns-in-NoFill-clause-saved g c =
    let before = g.E.Feasible.state c.args.engine.now in
    let made = g.E.Feasible.state c.choose_least.new.engine in
    let now = g.E.Feasible.state c.fill_planned.new.engine in
    let done = c.fill_planned.ensures in
    saved_at before made now c.args.grade c.choose_least.ensures.state (filling_saved (flags c.args.self.now.plan.named.items) made now c.fill_planned.result done.entered done.ok done.unchanged)

pub returns-in-Limit-clause-saved : goal.returns-in-Limit-clause-saved
returns-in-Limit-clause-saved g c =
    let before = g.E.Feasible.state c.args.engine.now in
    let made = g.E.Feasible.state c.choose_least.new.engine in
    let now = g.E.Feasible.state c.fill_planned.new.engine in
    let done = c.fill_planned.ensures in
    saved_at before made now c.args.grade c.choose_least.ensures.state (filling_saved (flags c.args.self.now.plan.named.items) made now c.fill_planned.result done.entered done.ok done.unchanged)

pub returns-in-Filled-clause-saved : goal.returns-in-Filled-clause-saved
returns-in-Filled-clause-saved g c =
    let before = g.E.Feasible.state c.args.engine.now in
    let made = g.E.Feasible.state c.choose_least.new.engine in
    let now = g.E.Feasible.state c.fill_planned.new.engine in
    let done = c.fill_planned.ensures in
    let can = saved_at before made now c.args.grade c.choose_least.ensures.state (filling_saved (flags c.args.self.now.plan.named.items) made now c.fill_planned.result done.entered done.ok done.unchanged) in
    saved_found before now (g.E.Feasible.state c.greatest_grade-found.new.engine) (g.E.Feasible.state c.choose_least-in-Filled.new.engine) c.args.self.now.least can c.greatest_grade-found.ensures.state c.choose_least-in-Filled.ensures.state
