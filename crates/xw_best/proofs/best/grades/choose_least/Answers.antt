use Rattle.std.proofs.Common.{refl, ◌∙◌}
use Rattle.xw_feas.specs.State.{least_chosen}
use Rattle.xw_feas.proofs.EditsLemmas.{edit_done}
use Rattle.xw_best.specs.Best.{at_least}
use Rattle.xw_search.proofs.CountLemmas.{uncounted}
use Rattle.xw_best.proofs.best.grades.choose_least.Goals as goal

pub returns-clause-state : goal.returns-clause-state
returns-clause-state g c =
    let before = g.E.Feasible.state c.args.engine.now in
    edit_done before (g.E.Feasible.state c.edit.follows.lender-at-none) (at_least before c.args.grade) (g.E.Feasible.answers c.args.engine.now) (g.E.Feasible.answers c.edit.follows.lender-at-none) (least_chosen c.args.grade) c.edit.result refl refl c.edit.follows.holds-at-none.0

pub returns-clause-count : goal.returns-clause-count
returns-clause-count g c = c.edit.follows.holds-at-none.1 ∙ uncounted (least_chosen c.args.grade) c.edit.result (g.E.Feasible.placed c.args.engine.now) refl
