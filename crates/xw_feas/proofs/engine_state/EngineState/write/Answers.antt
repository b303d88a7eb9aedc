use Rattle.std.proofs.Common.{refl, ap, ◌∙◌}
use Rattle.xw_feas.specs.EngineState.{state_of}
use Rattle.xw_feas.specs.State.{with_grid, by_fault}
use Rattle.xw_feas.proofs.Noting.{kept_listed}
use Rattle.xw_feas.proofs.engine_state.EngineState.write.Goals as goal

pub returns : goal.returns
returns c =
    let old = c.args.self.now in
    record {
      made = ap (λ result. with_grid (state_of old) (by_fault result)) c.enter_list.ensures.written;
      lights = refl;
      shape = c.enter_list.ensures.shape;
      counts = λ len. refl;
      told = record {
        cells = c.keep_changed-count.ensures.kept ∙ kept_listed old.grid c.enter_list.new.grid c.args.list.now c.note_all.new.self.noted.items c.enter_list.ensures.written c.note_all.ensures.noted;
        lights = old.light_list;
        word = refl;
        turned = λ len. refl;
        back = refl;
        altered = refl;
      };
    }
