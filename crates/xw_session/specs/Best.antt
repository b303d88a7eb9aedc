-- The lines of best.
use Rattle.std.specs.Prelude.{ℕ, List, ◌++◌, codes}
use Rattle.xw_best.specs.declared.best.Best.{Best}
use Rattle.xw_best.specs.declared.best.Best.TheVariants.{Filled, NoFill, Limit}
use Rattle.xw_search.specs.declared.filling.Filling.TheVariants as fillings
use Rattle.xw_answers.specs.Text.{number_line}
use Rattle.xw_session.specs.Reply.{filling_line}

-- how the search ended, the grade of the fill, and the proved bound
abbrev pub best_lines : Best → List ℕ
best_lines (Filled least bound) = filling_line fillings.Filled ++ (number_line (codes "least") least ++ number_line (codes "bound") bound)
best_lines NoFill = filling_line fillings.NoFill
best_lines (Limit bound) = filling_line fillings.Limit ++ number_line (codes "bound") bound
