use Rattle.std.proofs.Common.{◌∙◌}
use Rattle.xw_fill.proofs.Uncrossed.{uncrossed_same}
use Rattle.xw_fill.proofs.choices.fewest_after_any.Goals as goal

pub returns-clause-fewest : goal.returns-clause-fewest
returns-clause-fewest g c = λ index tried.
    let state = g.E.Feasible.state c.args.engine.now in
    c.fewest_after.ensures.fewest
    ∙ uncrossed_same state c.args.light c.in_ok-index.index index (g.met.E.Feasible.well_formed c.args.engine.now)
    (c.is_crossed.ensures c.if-is_crossed.false)
    c.requires.light c.in_ok-index.ensures.within tried.index_in
