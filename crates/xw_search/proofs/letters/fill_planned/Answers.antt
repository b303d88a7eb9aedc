use Rattle.std.proofs.Common.{refl, sym, ◌∙◌, inl, inr, subst}
use Rattle.xw_search.specs.Position.{position_of}
use Rattle.xw_search.specs.NamedFill.{flags}
use Rattle.xw_search.specs.Progress.{entries_of, HasNone, IsDead, AreAlive}
use Rattle.xw_search.proofs.CheckLemmas.{repeated_from}
use Rattle.xw_search.proofs.NamedFills.{entered_start}
use Rattle.xw_search.proofs.LetterSearch.{refuted_has_none}
use Rattle.xw_search.proofs.Naming.{open_start, some_found, none_found}
use Rattle.xw_search.proofs.AllowanceLemmas.{counted-none}
use Rattle.xw_search.proofs.letters.fill_planned.Goals as goal

pub returns-then-is_some-clause-ok : goal.returns-then-is_some-clause-ok
returns-then-is_some-clause-ok g c =
    let start = g.E.Feasible.state c.args.engine.now in
    let position = position_of start in
    let named = flags c.args.plan.now.named.items in
    let letters = (g.met.E.Feasible.well_formed c.args.engine.now).board.letters in
    let found = some_found (IsDead (flags c.deref.result.now) position) c.first_dead.result (sym c.is_some.ensures ∙ c.if-is_some.true) c.first_dead.ensures.dead in
    let none : HasNone named position (entries_of start) =
    refuted_has_none named position (entries_of start) c.args.plan.now.watched.items (entered_start named position letters) c.requires.plan.watched.are
    (inl (found.0, subst (λ list. IsDead (flags list) position found.0) c.deref.ensures.value found.1)) in
    (λ entries fill. none entries fill fill.kept, refl)

pub returns-then-repeats-clause-ok : goal.returns-then-repeats-clause-ok
returns-then-repeats-clause-ok g c =
    let start = g.E.Feasible.state c.args.engine.now in
    let position = position_of start in
    let named = flags c.args.plan.now.named.items in
    let letters = (g.met.E.Feasible.well_formed c.args.engine.now).board.letters in
    let is = c.in_ok-repeats.ensures in
    let none : HasNone named position (entries_of start) =
    refuted_has_none named position (entries_of start) c.args.plan.now.watched.items (entered_start named position letters) c.requires.plan.watched.are
    (inr (repeated_from position (sym is ∙ c.if-repeats.true))) in
    (λ entries fill. none entries fill fill.kept, refl)

pub run_again-requires-clause-open : goal.run_again-requires-clause-open
run_again-requires-clause-open g c =
    let start = g.E.Feasible.state c.args.engine.now in
    let position = position_of start in
    let letters = (g.met.E.Feasible.well_formed c.args.engine.now).board.letters in
    let is = c.in_ok-repeats.ensures in
    open_start start c.args.plan.now c.deref.result.now letters c.requires.plan c.deref.ensures.value
    (none_found (AreAlive (flags c.deref.result.now) position) c.first_dead.result (sym c.is_some.ensures ∙ c.if-is_some.false) c.first_dead.ensures.alive)
    (sym is ∙ c.if-repeats.false)

pub returns-then-is_some-clause-counted : goal.returns-then-is_some-clause-counted
returns-then-is_some-clause-counted g c = counted-none c.args.allowance.now (g.E.Feasible.state c.args.engine.now)

pub returns-then-repeats-clause-counted : goal.returns-then-repeats-clause-counted
returns-then-repeats-clause-counted g c = counted-none c.args.allowance.now (g.E.Feasible.state c.args.engine.now)
