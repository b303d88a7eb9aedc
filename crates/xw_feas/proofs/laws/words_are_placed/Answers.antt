use Rattle.xw_feas.proofs.PlacedLemmas.{words_are_placed as placed_lemmas_words_are_placed}
use Rattle.xw_feas.proofs.laws.words_are_placed.Goals as goal

pub returns : goal.returns
returns c = placed_lemmas_words_are_placed
