use Rattle.std.proofs.Common.{ap, subst}
use Rattle.std.specs.Prelude.{is_some}
use Rattle.xw_grid.specs.Grid.{IsGrid}
use Rattle.xw_session.specs.Reply.{name_of_light}
use Rattle.xw_answers.proofs.LightTexts.{no_such_number}
use Rattle.xw_session.proofs.Naming.{when_none}
use Rattle.xw_session.proofs.lookup.known_name.Goals as goal

pub returns-in_err-name-clause-none : goal.returns-in_err-name-clause-none
returns-in_err-name-clause-none g c =
    let grid = (g.E.Feasible.state c.args.engine.now).grid in
    when_none c.from_residual.result (ap is_some (no_such_number grid (name_of_light c.args.named) (subst IsGrid c.grid.ensures c.well_formed-2.ensures) c.in_err-name.ensures.none))
