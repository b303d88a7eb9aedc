use Rattle.xw_search.proofs.FeasibleWordsLemmas.{answered_words}
use Rattle.xw_fill.proofs.laws.words_law.Goals as goal

pub returns : goal.returns
returns c = answered_words
