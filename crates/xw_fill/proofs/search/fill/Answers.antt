use Rattle.std.proofs.Common.{◌≡◌, vec_len, length, sym, ap, ◌∙◌, subst, arith}
use Rattle.std.proofs.lemmas.List.{with_items_is}
use Rattle.xw_feas.specs.State.{State}
use Rattle.xw_fill.specs.Filling.{IsFilling, HasFill}
use Rattle.xw_fill.specs.Inner.EnteredSince.{noted}
use Rattle.xw_fill.specs.Inner.OfState.{AreEntered}
use Rattle.xw_search.specs.OfState.{light_count}
use Rattle.xw_fill.specs.OfState.{outlook}
use Rattle.xw_search.specs.Position.{position_of}
use Rattle.xw_search.proofs.FeasibleWordsLemmas.{AreAnswers-along}
use Rattle.xw_fill.proofs.Searching.{on_err, unless_filled}
use Rattle.xw_fill.proofs.search.fill.Goals as goal

pub fill_from-requires-clause-first : goal.fill_from-requires-clause-first
fill_from-requires-clause-first g c = c.in_ok-first.ensures.next ∙ ap outlook (sym c.begin-2.ensures.state)

pub fill_from-requires-clause-long : goal.fill_from-requires-clause-long
fill_from-requires-clause-long g c =
    let since = c.in_ok-since.since in
    let given = ap length c.as_mut_slice.ensures.value in
    let since_is = c.as_mut_slice-since.ensures.value ∙ with_items_is since c.begin.new.since (omega (arith, c.begin.ensures.long, given, since.ok)) in
    let many : vec_len since ≡ c.light_count-count.result = c.in_ok-since.ensures.len in
    let long : length since.items ≡ light_count (g.E.Feasible.state c.args.engine.now) = omega (arith, many, since.ok, c.light_count-count.ensures) in
    ap length since_is ∙ c.begin.ensures.long ∙ given ∙ long ∙ ap light_count (sym c.begin-2.ensures.state)

pub fill_from-requires-clause-entered : goal.fill_from-requires-clause-entered
fill_from-requires-clause-entered g c =
    let since = c.in_ok-since.since in
    let given = ap length c.as_mut_slice.ensures.value in
    let since_is = c.as_mut_slice-since.ensures.value ∙ with_items_is since c.begin.new.since (omega (arith, c.begin.ensures.long, given, since.ok)) in
    subst (λ (state : State). AreEntered state (noted c.as_mut_slice-since.result.now 1)) (sym c.begin-2.ensures.state)
    (subst (λ notes. AreEntered (g.E.Feasible.state c.args.engine.now) (noted notes 1)) (sym since_is) c.begin.ensures.entered)

pub returns-clause-found : goal.returns-clause-found
returns-clause-found g c = subst (λ (state : State). IsFilling c.args.limit state (g.E.Feasible.state c.fill_from.new.engine) c.in_ok-fill_from.field-0) c.begin-2.ensures.state c.in_ok-fill_from.ensures.found

pub returns-clause-fill : goal.returns-clause-fill
returns-clause-fill g c = subst (λ (state : State). HasFill state (g.E.Feasible.state c.fill_from.new.engine) c.in_ok-fill_from.field-0) c.begin-2.ensures.state c.in_ok-fill_from.ensures.fill

pub returns-clause-answers : goal.returns-clause-answers
returns-clause-answers g c =
    let before = g.E.Feasible.state c.args.engine.now in
    let after = g.E.Feasible.state c.fill_from.new.engine in
    unless_filled c.args.limit before after c.in_ok-fill_from.field-0 (subst (λ (state : State). IsFilling c.args.limit state after c.in_ok-fill_from.field-0) c.begin-2.ensures.state c.in_ok-fill_from.ensures.found) (λ same.
    AreAnswers-along (position_of after) (position_of before) (g.E.Feasible.answers c.fill_from.new.engine) (g.E.Feasible.answers c.args.engine.now) (g.met.E.Feasible.exact c.fill_from.new.engine) (g.met.E.Feasible.exact c.args.engine.now) (ap position_of same))

pub returns-in_err-fill_from-clause-unchanged : goal.returns-in_err-fill_from-clause-unchanged
returns-in_err-fill_from-clause-unchanged g c = on_err c.from_residual-in_err-fill_from.result (c.in_err-fill_from.ensures.unchanged ∙ c.begin-2.ensures.state)

pub returns-in_err-fill_from-clause-kept : goal.returns-in_err-fill_from-clause-kept
returns-in_err-fill_from-clause-kept g c =
    let before = g.E.Feasible.state c.args.engine.now in
    let after = g.E.Feasible.state c.fill_from.new.engine in
    on_err c.from_residual-in_err-fill_from.result (AreAnswers-along (position_of after) (position_of before) (g.E.Feasible.answers c.fill_from.new.engine) (g.E.Feasible.answers c.args.engine.now) (g.met.E.Feasible.exact c.fill_from.new.engine) (g.met.E.Feasible.exact c.args.engine.now)
    (ap position_of (c.in_err-fill_from.ensures.unchanged ∙ c.begin-2.ensures.state)))
