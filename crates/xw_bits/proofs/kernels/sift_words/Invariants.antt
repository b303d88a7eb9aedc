use Rattle.std.proofs.Common.{length, ◌+◌, ◌-◌}
use Rattle.xw_bits.proofs.Combined.{IsSiftedBelow}
use Rattle.xw_bits.proofs.kernels.sift_words.Given as goal

abbrev pub invariant-loop-chunk : goal.invariant-loop-chunk
invariant-loop-chunk l = IsSiftedBelow l.keep l.initial.words l.other l.from l.words l.summary l.initial.summary

abbrev pub decreases-loop-chunk : goal.decreases-loop-chunk
decreases-loop-chunk l = length l.initial.words + 1 - l.from
