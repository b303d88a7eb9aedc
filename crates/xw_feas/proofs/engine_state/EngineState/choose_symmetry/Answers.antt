use Rattle.std.proofs.Common.{refl, ap, sym, ◌∙◌}
use Rattle.xw_grid.proofs.ChangeLemmas.{symmetry_keeps_shape}
use Rattle.xw_feas.specs.EngineState.{state_of}
use Rattle.xw_feas.specs.State.{State, with_grid, by_fault}
use Rattle.xw_feas.proofs.EffectLemmas.{symmetry_keeps}
use Rattle.xw_feas.proofs.WellFormedLemmas.{state_formed}
use Rattle.xw_feas.proofs.engine_state.EngineState.choose_symmetry.Goals as goal

pub invariant_of-self : goal.invariant_of-self
invariant_of-self c =
    let old = c.args.self.now in
    let shape = symmetry_keeps_shape old.grid c.choose_symmetry.new.self c.args.kind c.choose_symmetry.ensures in
    record {
      room = old.room ∙ sym shape.cells;
      light_list = old.light_list ∙ sym shape.lights;
      formed = state_formed c.choose_symmetry.new.self old.bank.words c.well_formed-2.ensures old.formed.dictionary;
    }

pub returns : goal.returns
returns c =
    let old = c.args.self.now in
    let now : State = record { grid = c.choose_symmetry.new.self; words = old.bank.words } in
    let made = ap (λ result. with_grid (state_of old) (by_fault result)) c.choose_symmetry.ensures in
    record {
      made = made;
      lights = refl;
      shape = symmetry_keeps_shape old.grid now.grid c.args.kind c.choose_symmetry.ensures;
      counts = λ len. refl;
      told = symmetry_keeps (state_of old) c.args.kind now made;
    }
