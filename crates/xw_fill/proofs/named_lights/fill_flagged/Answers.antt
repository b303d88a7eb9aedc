use Rattle.std.proofs.Common.{◌∙◌, subst}
use Rattle.std.specs.Prelude.{IfOk}
use Rattle.xw_search.specs.NamedFill.{flags, IsAutofilled}
use Rattle.xw_fill.proofs.named_lights.fill_flagged.Goals as goal

pub returns-clause-ok : goal.returns-clause-ok
returns-clause-ok g c =
    subst (λ named. IfOk c.fill_planned.result (IsAutofilled (flags named.items) (g.E.Feasible.state c.args.engine.now) (g.E.Feasible.state c.fill_planned.new.engine))) c.in_ok-plan.ensures.named c.fill_planned.ensures.ok

pub returns-clause-limit : goal.returns-clause-limit
returns-clause-limit g c is = c.fill_planned.ensures.limit is ∙ c.fill_planned.ensures.until
