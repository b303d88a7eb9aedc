use Rattle.std.proofs.Common.{subst}
use Rattle.xw_grid.specs.Grid.{IsGrid}
use Rattle.xw_session.specs.Reply.{name_of_light}
use Rattle.xw_answers.proofs.LightTexts.{no_such_number}
use Rattle.xw_session.proofs.session.reasoning.reason_for.Goals as goal

pub returns-in-None-clause-refused : goal.returns-in-None-clause-refused
returns-in-None-clause-refused g c =
    no_such_number (g.E.Feasible.state c.args.engine.now).grid (name_of_light c.args.named) (subst IsGrid c.grid.ensures c.well_formed-2.ensures) c.in-None.ensures.none
