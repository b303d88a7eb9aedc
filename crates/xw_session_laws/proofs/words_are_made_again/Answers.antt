use Rattle.std.proofs.Common.{◌∙◌, refl, ap}
use Rattle.xw_answers.specs.Record.{word_commands}
use Rattle.xw_session_laws.specs.Replay.{replayed}
use Rattle.xw_session_laws.proofs.WordsAgain.{words_again}
use Rattle.xw_session_laws.proofs.words_are_made_again.Goals as goal

pub returns : goal.returns
returns c = λ state made was is least begun first.
    ap (λ counts. replayed state (word_commands counts made.engine.words)) begun
    ∙ words_again state state.engine.words made.engine.words is was.lengths least refl first
