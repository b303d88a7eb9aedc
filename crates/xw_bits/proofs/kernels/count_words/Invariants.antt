use Rattle.std.proofs.Common.{length, ◌+◌, ◌-◌, ◌≡◌, ◌≤◌, ◌*◌, sum_by, count_ones, take}
use Rattle.xw_bits.proofs.kernels.count_words.Given as goal

abbrev pub invariant-loop-at : goal.invariant-loop-at
invariant-loop-at l = record {
  within : l.at ≤ length l.words;
  so_far : l.total ≡ sum_by count_ones (take l.at l.words);
  small : l.total ≤ 64 * l.at;
}

abbrev pub decreases-loop-at : goal.decreases-loop-at
decreases-loop-at l = length l.initial.words + 1 - l.at

abbrev pub invariant-loop-at-2 : goal.invariant-loop-at-2
invariant-loop-at-2 l = record {
  within : l.at ≤ length l.words;
  so_far : l.total ≡ sum_by count_ones (take l.at l.words);
  small : l.total ≤ 64 * l.at;
}

abbrev pub decreases-loop-at-2 : goal.decreases-loop-at-2
decreases-loop-at-2 l = length l.initial.words - l.at
