use Rattle.std.proofs.Common.{refl, ap, sym, ◌∙◌}
use Rattle.std.specs.Prelude.{Ok}
use Rattle.xw_grid.specs.Grid.{Grid}
use Rattle.xw_feas.specs.EngineState.{state_of}
use Rattle.xw_feas.specs.State.{with_grid}
use Rattle.xw_feas.proofs.EffectLemmas.{light_written}
use Rattle.xw_feas.proofs.PlacingLemmas.{bytes_accepted}
use Rattle.xw_feas.proofs.engine_state.EngineState.place.Goals as goal

pub returns : goal.returns
returns c =
    let old = c.args.self.now in
    let light = c.args.light in
    let word = c.args.word.now in
    record {
      made = ap (with_grid (state_of old)) (bytes_accepted old.grid light word c.requires.light c.requires.letters c.requires.size ∙ ap (λ (grid : Grid). Ok grid) (sym c.enter_word.ensures.letters));
      lights = refl;
      shape = c.enter_word.ensures.shape;
      counts = λ len. refl;
      told = record { cells = c.note_index.ensures ∙ light_written old.grid light word c.requires.light; lights = old.light_list; word = refl; turned = λ len. refl; back = refl; altered = refl };
    }
