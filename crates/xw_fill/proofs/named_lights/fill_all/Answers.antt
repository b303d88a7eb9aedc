use Rattle.std.specs.Prelude.{Ok}
use Rattle.std.proofs.Common.{true, subst, arith, ap}
use Rattle.xw_feas.specs.State.{State}
use Rattle.xw_search.specs.NamedFill.{IsAutofilled}
use Rattle.xw_search.proofs.AllowanceLemmas.{counted_granted, counted-then}
use Rattle.xw_fill.proofs.named_lights.fill_all.Goals as goal

pub returns-in-Filled-clause-counted : goal.returns-in-Filled-clause-counted
returns-in-Filled-clause-counted g c =
    counted_granted c.args.allowance.now c.grant.new.self c.fill_by_words.new.allowance (g.E.Feasible.state c.args.engine.now) (g.E.Feasible.state c.fill_by_words.new.engine) c.grant.ensures.made c.grant.ensures.limit c.fill_by_words.ensures.counted

pub returns-in-NoFill-clause-counted : goal.returns-in-NoFill-clause-counted
returns-in-NoFill-clause-counted g c =
    counted_granted c.args.allowance.now c.grant.new.self c.fill_by_words.new.allowance (g.E.Feasible.state c.args.engine.now) (g.E.Feasible.state c.fill_by_words.new.engine) c.grant.ensures.made c.grant.ensures.limit c.fill_by_words.ensures.counted

pub returns-then-left-eq0-clause-counted : goal.returns-then-left-eq0-clause-counted
returns-then-left-eq0-clause-counted g c =
    counted_granted c.args.allowance.now c.grant.new.self c.fill_by_words.new.allowance (g.E.Feasible.state c.args.engine.now) (g.E.Feasible.state c.fill_by_words.new.engine) c.grant.ensures.made c.grant.ensures.limit c.fill_by_words.ensures.counted

pub returns-clause-counted : goal.returns-clause-counted
returns-clause-counted g c =
    let before = g.E.Feasible.state c.args.engine.now in
    let between = g.E.Feasible.state c.fill_by_words.new.engine in
    let after = g.E.Feasible.state c.all_by_letters.new.engine in
    counted-then c.args.allowance.now c.fill_by_words.new.allowance c.all_by_letters.new.allowance before between after
    (counted_granted c.args.allowance.now c.grant.new.self c.fill_by_words.new.allowance before between c.grant.ensures.made c.grant.ensures.limit c.fill_by_words.ensures.counted) c.all_by_letters.ensures.counted

pub returns-clause-ok : goal.returns-clause-ok
returns-clause-ok g c =
    let before = g.E.Feasible.state c.args.engine.now in
    let after = g.E.Feasible.state c.all_by_letters.new.engine in
    let same = subst (IsAutofilled (λ light. true) before (g.E.Feasible.state c.fill_by_words.new.engine)) c.in-Limit.is c.in_ok-fill_by_words.ensures.ok in
    subst (λ (s : State). IsAutofilled (λ light. true) s after c.in_ok-all_by_letters.field-0) same c.in_ok-all_by_letters.ensures.ok

pub returns-in-Filled-clause-within : goal.returns-in-Filled-clause-within
returns-in-Filled-clause-within g c = omega (arith, c.fill_by_words.ensures.within, c.grant.ensures.made)

pub returns-in-NoFill-clause-within : goal.returns-in-NoFill-clause-within
returns-in-NoFill-clause-within g c = omega (arith, c.fill_by_words.ensures.within, c.grant.ensures.made)

pub returns-then-left-eq0-clause-placed : goal.returns-then-left-eq0-clause-placed
returns-then-left-eq0-clause-placed g c is_limit = omega (arith, c.in_ok-fill_by_words.ensures.placed (ap Ok c.in-Limit.is), c.grant.ensures.made)

pub returns-then-left-eq0-clause-within : goal.returns-then-left-eq0-clause-within
returns-then-left-eq0-clause-within g c = omega (arith, c.fill_by_words.ensures.within, c.grant.ensures.made)

pub returns-clause-placed : goal.returns-clause-placed
returns-clause-placed g c is_limit = omega (arith, c.in_ok-all_by_letters.ensures.placed, c.in_ok-fill_by_words.ensures.placed (ap Ok c.in-Limit.is), c.grant.ensures.made)

pub returns-clause-within : goal.returns-clause-within
returns-clause-within g c = omega (arith, c.all_by_letters.ensures.within, c.fill_by_words.ensures.within, c.grant.ensures.made)
