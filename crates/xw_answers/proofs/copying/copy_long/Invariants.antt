use Rattle.std.proofs.Common.{◌≡◌, ◌-◌, take}
use Rattle.xw_answers.proofs.copying.copy_long.Given as goal

-- the first letters are copied
abbrev pub invariant-loop-at : goal.invariant-loop-at
invariant-loop-at l = take l.at l.to ≡ take l.at l.letters

abbrev pub decreases-loop-at : goal.decreases-loop-at
decreases-loop-at l = l.last - l.at
