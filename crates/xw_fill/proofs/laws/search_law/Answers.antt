use Rattle.xw_search.proofs.Shaped.{shaped}
use Rattle.xw_fill.proofs.LawLemmas.{search_is}
use Rattle.xw_fill.proofs.laws.search_law.Goals as goal

pub returns : goal.returns
returns c = λ position laid. search_is position (shaped position.board laid)
