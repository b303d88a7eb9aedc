use Rattle.std.proofs.Common.{◌∙◌, subst}
use Rattle.xw_feas.specs.State.{State}
use Rattle.xw_search.specs.Position.{position_of}
use Rattle.xw_search.specs.NamedFill.{flags}
use Rattle.xw_search.specs.Progress.{entries_of, HasNone}
use Rattle.xw_search.proofs.AllowanceLemmas.{counted_same}
use Rattle.xw_search.proofs.run.run.Goals as goal

pub returns-then-ne-clause-same : goal.returns-then-ne-clause-same
returns-then-ne-clause-same g c not_filled = c.reset.ensures.back ∙ c.search-ending.ensures.start ∙ c.begin.ensures.state

pub returns-then-ne-clause-counted : goal.returns-then-ne-clause-counted
returns-then-ne-clause-counted g c =
    let counted = c.search-ending.ensures.counted in
    counted_same c.args.allowance.now c.search-ending.new.allowance (g.E.Feasible.state c.args.engine.now) (g.E.Feasible.state c.reset.new.engine) counted.made counted.limit (c.reset.ensures.back ∙ c.search-ending.ensures.start ∙ c.begin.ensures.state)

pub returns-then-ne-clause-no_fill : goal.returns-then-ne-clause-no_fill
returns-then-ne-clause-no_fill g c is_none =
    subst (λ (s : State). HasNone (flags c.args.plan.now.named.items) (position_of s) (entries_of s)) c.begin.ensures.state (c.search-ending.ensures.no_fill is_none)
