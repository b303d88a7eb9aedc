use Rattle.std.proofs.Common.{◌≡◌, ap, ◌∙◌, subst}
use Rattle.xw_grid.specs.Grid.{IsGrid}
use Rattle.xw_session.specs.State.{SessionState}
use Rattle.xw_session.specs.Reply.{name_of_light}
use Rattle.xw_answers.proofs.LightTexts.{no_such_number}
use Rattle.xw_session.proofs.session.Session.counted_words.Goals as goal

pub returns-in-None-clause-none : goal.returns-in-None-clause-none
returns-in-None-clause-none g c =
    let state = c.args.self.now in
    let grid_is : c.grid.result.now ≡ state.engine.grid = c.grid.ensures ∙ ap (λ (s : SessionState). s.engine.grid) c.self.view_is in
    no_such_number state.engine.grid (name_of_light c.args.named) (subst IsGrid grid_is c.well_formed-2.ensures) c.in-None.ensures.none
