use Rattle.std.proofs.Common.{◌≡◌, ◌<◌, ◌≤◌, ℕ, length, arith, sym, ap, ◌∙◌, subst}
use Rattle.std.specs.Prelude.{Ok}
use Rattle.xw_search.specs.Position.{Position, position_of}
use Rattle.xw_search.specs.Lights.{light_count}
use Rattle.xw_search.specs.NamedFill.{flags}
use Rattle.xw_best.specs.Best.{at_least}
use Rattle.xw_best.specs.Inner.Climbing.{AreFresh, AreActiveAt, AreAliveAt}
use Rattle.xw_search.specs.Progress.{is_watched}
use Rattle.xw_search.proofs.LetterSearch.{position_at}
use Rattle.xw_best.proofs.GradeLemmas.{saved_found, active_now, alive_now, filled_now}
use Rattle.xw_search.proofs.StateLemmas.{CanSave-entries}
use Rattle.xw_best.proofs.CandidateLemmas.{known_fill}
use Rattle.xw_best.proofs.best.probe.Prober.try_known.Goals as goal

pub enter-requires-clause-fresh : goal.enter-requires-clause-fresh
enter-requires-clause-fresh g c = subst (AreFresh (position_of (g.E.Feasible.state c.args.engine.now))) (sym c.as_slice-fresh.ensures.value) c.requires.prober.fresh

pub greatest_grade-grade-requires-clause-watched : goal.greatest_grade-grade-requires-clause-watched
greatest_grade-grade-requires-clause-watched g c =
    let before = g.E.Feasible.state c.args.engine.now in
    let now = g.E.Feasible.state c.enter.new.engine in
    let has = c.enter.ensures.filled (c.in_ok-is_fill.was ∙ ap Ok c.if-not-is_fill.false) in
    ap length c.as_slice-watched.ensures.value ∙ c.requires.prober.plan.watched.long ∙ sym (ap (λ (p : Position). light_count p) (position_at before now has.1))

pub greatest_grade-grade-requires-clause-fresh : goal.greatest_grade-grade-requires-clause-fresh
greatest_grade-grade-requires-clause-fresh g c =
    let before = g.E.Feasible.state c.args.engine.now in
    let now = g.E.Feasible.state c.enter.new.engine in
    let has = c.enter.ensures.filled (c.in_ok-is_fill.was ∙ ap Ok c.if-not-is_fill.false) in
    ap length c.as_slice-fresh.ensures.value ∙ c.requires.prober.fresh.long ∙ sym (ap (λ (p : Position). light_count p) (position_at before now has.1))

pub greatest_grade-grade-requires-clause-active : goal.greatest_grade-grade-requires-clause-active
greatest_grade-grade-requires-clause-active g c =
    let before = g.E.Feasible.state c.args.engine.now in
    let now = g.E.Feasible.state c.enter.new.engine in
    let plan = c.args.self.now.plan in
    let formed = g.met.E.Feasible.well_formed c.args.engine.now in
    let found = known_fill (flags plan.named.items) before now formed (c.enter.ensures.filled (c.in_ok-is_fill.was ∙ ap Ok c.if-not-is_fill.false)) in
    let fresh = subst (AreFresh (position_of before)) (sym c.as_slice-fresh.ensures.value) c.requires.prober.fresh in
    subst (AreActiveAt (flags c.as_slice-fresh.result.now) now) (sym c.requires.prober.least)
    (active_now plan.named.items c.as_slice-fresh.result.now plan.watched.items before now before.words.least fresh c.requires.prober.plan.watched.are found.0 found.1 before.words.least found.0)

pub greatest_grade-grade-requires-clause-alive : goal.greatest_grade-grade-requires-clause-alive
greatest_grade-grade-requires-clause-alive g c =
    let before = g.E.Feasible.state c.args.engine.now in
    let now = g.E.Feasible.state c.enter.new.engine in
    let plan = c.args.self.now.plan in
    let formed = g.met.E.Feasible.well_formed c.args.engine.now in
    let found = known_fill (flags plan.named.items) before now formed (c.enter.ensures.filled (c.in_ok-is_fill.was ∙ ap Ok c.if-not-is_fill.false)) in
    let are : (light : ℕ) → light < light_count (position_of before) → flags c.as_slice-watched.result.now light ≡ is_watched (flags plan.named.items) (position_of before) light =
    λ light in_grid. ap (λ list. flags list light) c.as_slice-watched.ensures.value ∙ c.requires.prober.plan.watched.are light in_grid in
    let fresh = subst (AreFresh (position_of before)) (sym c.as_slice-fresh.ensures.value) c.requires.prober.fresh in
    subst (AreAliveAt (flags c.as_slice-watched.result.now) now) (sym c.requires.prober.least)
    (alive_now plan.named.items c.as_slice-fresh.result.now c.as_slice-watched.result.now before now before.words.least fresh are found.0 found.1 before.words.least found.0)

pub returns-clause-saved : goal.returns-clause-saved
returns-clause-saved g c =
    let before = g.E.Feasible.state c.args.engine.now in
    let now = g.E.Feasible.state c.enter.new.engine in
    let rest = g.E.Feasible.state c.greatest_grade-grade.new.engine in
    saved_found before now rest (g.E.Feasible.state c.choose_least.new.engine) c.args.self.now.least (CanSave-entries before now c.enter.ensures.entries) c.greatest_grade-grade.ensures.state c.choose_least.ensures.state

pub returns-then-not-is_fill-clause-saved : goal.returns-then-not-is_fill-clause-saved
returns-then-not-is_fill-clause-saved g c = CanSave-entries (g.E.Feasible.state c.args.engine.now) (g.E.Feasible.state c.enter.new.engine) c.enter.ensures.entries

pub returns-in_err-is_fill-clause-saved : goal.returns-in_err-is_fill-clause-saved
returns-in_err-is_fill-clause-saved g c = CanSave-entries (g.E.Feasible.state c.args.engine.now) (g.E.Feasible.state c.enter.new.engine) c.enter.ensures.entries

pub returns-clause-ok : goal.returns-clause-ok
returns-clause-ok g c =
    let before = g.E.Feasible.state c.args.engine.now in
    let now = g.E.Feasible.state c.enter.new.engine in
    let rest = g.E.Feasible.state c.greatest_grade-grade.new.engine in
    let after = g.E.Feasible.state c.choose_least.new.engine in
    let plan = c.args.self.now.plan in
    let formed = g.met.E.Feasible.well_formed c.args.engine.now in
    let found = known_fill (flags plan.named.items) before now formed (c.enter.ensures.filled (c.in_ok-is_fill.was ∙ ap Ok c.if-not-is_fill.false)) in
    let are : (light : ℕ) → light < light_count (position_of before) → flags c.as_slice-watched.result.now light ≡ is_watched (flags plan.named.items) (position_of before) light =
    λ light in_grid. ap (λ list. flags list light) c.as_slice-watched.ensures.value ∙ c.requires.prober.plan.watched.are light in_grid in
    let fresh = subst (AreFresh (position_of before)) (sym c.as_slice-fresh.ensures.value) c.requires.prober.fresh in
    let back : after ≡ at_least rest before.words.least = c.choose_least.ensures.state ∙ ap (λ n. at_least rest n) c.requires.prober.least in
    let graded = c.greatest_grade-grade.ensures in (
      graded.above,
      filled_now plan.named.items c.as_slice-fresh.result.now c.as_slice-watched.result.now before now before.words.least fresh are found.0 found.1 rest after c.greatest_grade-grade.result formed graded.state back
          (omega arith) (subst (λ n. n ≤ c.greatest_grade-grade.result) c.requires.prober.least graded.above) graded.graded graded.active graded.alive graded.greatest,
    )
