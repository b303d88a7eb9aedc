use Rattle.xw_search.proofs.Shaped.{shaped}
use Rattle.xw_search.proofs.BelowLemmas.{Contains-among}
use Rattle.xw_fill.proofs.FillLemmas.{fill_is_feasible}
use Rattle.xw_fill.proofs.laws.feasible_law.Goals as goal

pub returns : goal.returns
returns c = λ position entries laid fill light in_grid. Contains-among _ _ (fill_is_feasible position entries (shaped position.board laid) fill light in_grid)
