use Rattle.xw_search.proofs.WritingLemmas.{writing}
use Rattle.std.proofs.Common.{refl, ◌∙◌}
use Rattle.xw_feas.specs.State.{list_written}
use Rattle.xw_search.proofs.CountLemmas.{uncounted}
use Rattle.xw_search.proofs.writing.write.Goals as goal

pub returns-clause-entries : goal.returns-clause-entries
returns-clause-entries g c =
    let now = c.edit.follows.lender-at-none in
    (writing (g.E.Feasible.state c.args.engine.now) (g.E.Feasible.state now) (g.E.Feasible.answers c.args.engine.now) (g.E.Feasible.answers now) c.args.list.now c.edit.result (g.met.E.Feasible.well_formed c.args.engine.now).grid c.requires c.edit.follows.holds-at-none.0).0

pub returns-clause-rest : goal.returns-clause-rest
returns-clause-rest g c =
    let now = c.edit.follows.lender-at-none in
    (writing (g.E.Feasible.state c.args.engine.now) (g.E.Feasible.state now) (g.E.Feasible.answers c.args.engine.now) (g.E.Feasible.answers now) c.args.list.now c.edit.result (g.met.E.Feasible.well_formed c.args.engine.now).grid c.requires c.edit.follows.holds-at-none.0).1

pub returns-clause-count : goal.returns-clause-count
returns-clause-count g c = c.edit.follows.holds-at-none.1 ∙ uncounted (list_written c.args.list.now) c.edit.result (g.E.Feasible.placed c.args.engine.now) refl
