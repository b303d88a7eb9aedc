use Rattle.std.proofs.Common.{◌≡◌, take}
use Rattle.xw_answers.proofs.copying.copy_each.Given as goal

-- the first letters are copied
abbrev pub invariant-loop-k : goal.invariant-loop-k
invariant-loop-k l = take l.k l.to ≡ take l.k l.letters
