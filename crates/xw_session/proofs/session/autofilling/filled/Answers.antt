use Rattle.std.proofs.Common.{List, ◌∙◌, subst, arith}
use Rattle.std.specs.Prelude.{IfOk, IfErr}
use Rattle.xw_grid.specs.declared.cell.LightName.{LightName}
use Rattle.xw_search.specs.NamedFill.{IsAutofilled, IsRefusal, is_named}
use Rattle.xw_session.proofs.Naming.{on_ok, unsearched}
use Rattle.xw_session.proofs.session.autofilling.filled.Goals as goal

pub returns-clause-ok : goal.returns-clause-ok
returns-clause-ok g c =
    let before = g.E.Feasible.state c.args.engine.now in
    subst (λ (names : List LightName). IfOk c.autofill.result (IsAutofilled (is_named before names) before (g.E.Feasible.state c.autofill.new.engine))) (c.as_slice.ensures.value ∙ c.in_ok-names.ensures.ok) c.autofill.ensures.ok

pub returns-clause-known : goal.returns-clause-known
returns-clause-known g c = on_ok c.autofill.result c.in_ok-names.ensures.known

pub returns-clause-refused : goal.returns-clause-refused
returns-clause-refused g c =
    let before = g.E.Feasible.state c.args.engine.now in
    let names = c.as_slice.ensures.value ∙ c.in_ok-names.ensures.ok in
    unsearched before _ c.autofill.result c.in_ok-names.ensures.known (subst (λ (names : List LightName). IfErr c.autofill.result (IsRefusal before names)) names c.autofill.ensures.refused)

pub returns-clause-idle : goal.returns-clause-idle
returns-clause-idle g c none =
    let made = c.autofill.new.allowance in
    c.autofill.ensures.counted.idle (omega (arith, none, c.autofill.ensures.counted.limit, c.new-allowance.ensures.made, c.new-allowance.ensures.limit, made.within, made.shared))

pub returns-clause-within : goal.returns-clause-within
returns-clause-within g c =
    let made = c.autofill.new.allowance in
    omega (arith, c.autofill.ensures.within, c.autofill.ensures.counted.limit, c.new-allowance.ensures.made, c.new-allowance.ensures.limit, made.within, made.shared)

pub returns-clause-limit : goal.returns-clause-limit
returns-clause-limit g c is_limit =
    omega (arith, c.autofill.ensures.placed is_limit, c.autofill.ensures.limit is_limit, c.autofill.ensures.counted.limit, c.new-allowance.ensures.made, c.new-allowance.ensures.limit)

pub returns-in_err-names-clause-within : goal.returns-in_err-names-clause-within
returns-in_err-names-clause-within g c = omega arith
