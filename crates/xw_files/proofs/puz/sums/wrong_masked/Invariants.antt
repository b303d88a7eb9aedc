use Rattle.std.proofs.Common.{◌≡◌, ◌+◌, drop}
use Rattle.xw_files.specs.Puz.Sums.{wrong_masked}
use Rattle.xw_files.proofs.puz.sums.wrong_masked.Given as goal

abbrev pub invariant-loop-index : goal.invariant-loop-index
invariant-loop-index l = wrong_masked (l.index + 1) (drop l.index l.masked) (drop l.index l.computed) ≡ wrong_masked 1 l.masked l.computed
