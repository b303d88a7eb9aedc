use Rattle.std.proofs.Common.{refl, ◌∙◌}
use Rattle.xw_words.specs.Dictionary.{known_words, entry_at}
use Rattle.xw_feas.specs.EngineState.{state_of}
use Rattle.xw_feas.specs.State.{light_of}
use Rattle.xw_feas.proofs.EffectLemmas.{light_written}
use Rattle.xw_feas.proofs.engine_state.EngineState.place_known.Goals as goal

pub returns-clause-told : goal.returns-clause-told
returns-clause-told c =
    let old = c.args.self.now in
    let word = (entry_at (known_words old.bank.words (light_of (state_of old) c.args.light).size) c.args.index).word in
    record { cells = c.note_index.ensures ∙ light_written old.grid c.args.light word c.requires.light; lights = old.light_list; word = refl; turned = λ len. refl; back = refl; altered = refl }
