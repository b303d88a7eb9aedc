use Rattle.std.proofs.Common.{◌≡◌, ◌<◌, length, get_or, ap, sym, ◌∙◌, subst}
use Rattle.xw_grid.specs.declared.lights.Light.{Light}
use Rattle.xw_grid.specs.Light.{no_light}
use Rattle.xw_feas.specs.State.{word_placed}
use Rattle.std.specs.Prelude.{List}
use Rattle.xw_feas.proofs.LightsLemmas.{named_is}
use Rattle.xw_feas.proofs.engine_state.EngineState.judge_place.Goals as goal

pub returns : goal.returns
returns c =
    let position = c.args.self.now in
    let light = c.in_ok-light.light in
    let judged = c.in_ok-light.ensures in (
      ap (λ name. word_placed name c.args.word.now) (ap (λ (lights : List Light). (get_or lights light no_light).name) (sym position.light_list) ∙ named_is position.lights c.args.name light judged.named),
      record {
        light = subst (λ (lights : List Light). light < length lights) position.light_list judged.within;
        letters = judged.letters;
        size = judged.size ∙ ap (λ (lights : List Light). (get_or lights light no_light).size) position.light_list;
      },
    )
