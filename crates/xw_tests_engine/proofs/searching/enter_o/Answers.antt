use Rattle.xw_tests_engine.proofs.Twins.{set_twin}
use Rattle.xw_tests_engine.proofs.searching.enter_o.Goals as goal

pub returns : goal.returns
returns g c =
    set_twin (g.E.Feasible.state c.args.engine.now) (g.E.Feasible.state c.edit.follows.lender-at-none) (g.E.Feasible.answers c.args.engine.now) (g.E.Feasible.answers c.edit.follows.lender-at-none) _ _ c.edit.result
    (g.met.E.Feasible.well_formed c.args.engine.now).grid c.edit.follows.holds-at-none.0
