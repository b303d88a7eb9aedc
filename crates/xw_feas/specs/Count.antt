-- The number that a count stands for.
use Rattle.std.specs.Prelude.{ℕ, suc}
use Rattle.xw_feas.specs.declared.count.Steps.{Steps, Start, After'}
use Rattle.xw_feas.specs.declared.count.Count.{Count}

-- the number of steps
abbrev pub steps_of : Steps → ℕ
steps_of Start = 0
steps_of (After' marker before) = suc (steps_of before)

-- the number of a count
abbrev pub number : Count → ℕ
number count = steps_of count.steps.value
