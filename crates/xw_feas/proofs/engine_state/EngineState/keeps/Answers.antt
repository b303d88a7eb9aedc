use Rattle.std.proofs.Common.{◌≡◌, true, false, not, sym, ap, ◌∙◌, refl, subst}
use Rattle.std.specs.Prelude.{Ok}
use Rattle.xw_grid.specs.Grid.{Grid}
use Rattle.xw_feas.specs.declared.pending.InPlace.{InPlace}
use Rattle.xw_feas.specs.EngineState.{state_of}
use Rattle.xw_feas.specs.Pending.{in_place_action, IsInPlace}
use Rattle.xw_feas.specs.State.{State, after}
use Rattle.xw_feas.proofs.Idle.{entered_stays, not_false}
use Rattle.xw_feas.proofs.WriteLemmas.{entered_made}
use Rattle.xw_feas.proofs.engine_state.EngineState.keeps.Goals as goal

pub returns-in-Enter : goal.returns-in-Enter
returns-in-Enter c = λ kept.
    let now = c.args.self.now in
    let cell = c.in-Enter.cell in
    let letter = c.in-Enter.letter in
    let same = sym c.is_changed.ensures ∙ not_false c.is_changed.result kept in
    subst (λ (edit : InPlace). IsInPlace (state_of now) edit → after (state_of now) (in_place_action (state_of now) edit) ≡ Ok (state_of now)) (sym c.in-Enter.is)
    (λ free. entered_made (state_of now) cell letter free ∙ ap (λ (grid : Grid). let state : State = record { grid = grid; words = now.bank.words } in Ok state) (entered_stays now.grid cell letter free same))
