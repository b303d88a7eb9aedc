use Rattle.std.proofs.Common.{◌≡◌, None, ap, inl, refl, subst, sym}
use Rattle.xw_grid.specs.Grid.{IsGrid}
use Rattle.xw_grid.specs.Light.{lights_of, index_named}
use Rattle.xw_feas.specs.State.{placed_in, with_grid}
use Rattle.xw_session.specs.Reply.{name_of_light, moved}
use Rattle.xw_answers.proofs.LightTexts.{no_such_number}
use Rattle.xw_session.proofs.session.asking.place.Goals as goal

pub returns-in-None : goal.returns-in-None
returns-in-None c = λ state is.
    let formed : IsGrid state.engine.grid = subst IsGrid (sym is) c.well_formed-2.ensures in
    let none : index_named (lights_of state.engine.grid) (name_of_light c.args.named) ≡ None = no_such_number state.engine.grid (name_of_light c.args.named) formed c.in-None.ensures.none in
    (inl (ap (λ light. moved state (with_grid state.engine (placed_in state.engine.grid light c.args.word.now))) none), refl)
