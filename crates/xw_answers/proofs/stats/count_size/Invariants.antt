use Rattle.std.proofs.Common.{◌≡◌, take}
use Rattle.xw_answers.specs.Stats.{count_of_size}
use Rattle.xw_answers.proofs.stats.count_size.Given as goal

abbrev pub invariant-loop-index : goal.invariant-loop-index
invariant-loop-index l = l.count ≡ count_of_size (take l.index l.lights) l.size
