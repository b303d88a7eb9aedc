use Rattle.std.proofs.Common.{sym, ap, ◌∙◌, subst}
use Rattle.std.specs.Prelude.{Ok}
use Rattle.xw_grid.specs.Grid.{Grid}
use Rattle.xw_grid.specs.EditLaws.{SameShape}
use Rattle.xw_grid.proofs.ChangeLemmas.{SameShape-entry}
use Rattle.xw_feas.specs.EngineState.{state_of}
use Rattle.xw_feas.specs.State.{State}
use Rattle.xw_feas.proofs.EffectLemmas.{entered_told}
use Rattle.xw_feas.proofs.WellFormedLemmas.{state_formed}
use Rattle.xw_feas.proofs.WriteLemmas.{taking_is_open, entered_made}
use Rattle.xw_feas.proofs.engine_state.EngineState.enter.Goals as goal

pub enter-requires : goal.enter-requires
enter-requires c = taking_is_open c.args.self.now.grid c.args.cell c.args.self.now.formed.grid c.requires

pub invariant_of-self : goal.invariant_of-self
invariant_of-self c =
    let old = c.args.self.now in
    let shape = subst (SameShape old.grid) (sym c.enter.ensures) (SameShape-entry old.grid c.args.cell c.args.letter old.formed.grid (taking_is_open old.grid c.args.cell old.formed.grid c.requires)) in
    record {
      room = old.room ∙ sym shape.cells;
      light_list = old.light_list ∙ sym shape.lights;
      formed = state_formed c.enter.new.self old.bank.words c.well_formed-2.ensures old.formed.dictionary;
    }

pub returns-clause-made : goal.returns-clause-made
returns-clause-made c =
    let old = c.args.self.now in
    entered_made (state_of old) c.args.cell c.args.letter c.requires ∙ ap (λ (grid : Grid). let state : State = record { grid = grid; words = old.bank.words } in Ok state) (sym c.enter.ensures)

pub returns-clause-shape : goal.returns-clause-shape
returns-clause-shape c =
    let old = c.args.self.now in
    subst (SameShape old.grid) (sym c.enter.ensures) (SameShape-entry old.grid c.args.cell c.args.letter old.formed.grid (taking_is_open old.grid c.args.cell old.formed.grid c.requires))

pub returns-clause-told : goal.returns-clause-told
returns-clause-told c =
    let old = c.args.self.now in
    entered_told (state_of old) old.lights old.light_list c.args.cell c.args.letter _ c.note_cell.ensures
