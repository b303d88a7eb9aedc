use Rattle.std.proofs.Common.{arith}
use Rattle.xw_fill.specs.Search.{unentered_count}
use Rattle.xw_search.proofs.Shaped.{shaped}
use Rattle.xw_fill.proofs.FillLemmas.{fill_is_found, found_is_fill, reached-start}
use Rattle.xw_fill.proofs.laws.fill_law.Goals as goal

pub returns-clause-end : goal.returns-clause-end
returns-clause-end c = λ position laid h.
    let is = found_is_fill (unentered_count position) position position.board.entries (shaped position.board laid) (reached-start position laid.letters) h in
    (is.0, is.2, is.1)

pub returns-clause-found : goal.returns-clause-found
returns-clause-found c = λ position entries laid fill. fill_is_found (unentered_count position) position entries (shaped position.board laid) (omega arith) fill
