use Rattle.std.proofs.Common.{◌≡◌, ◌≤◌, ◌*◌, sum_by, count_ones, take}
use Rattle.xw_bits.proofs.kernels.count_kept.Given as goal

abbrev pub invariant-loop-k : goal.invariant-loop-k
invariant-loop-k l = record {
  so_far : l.cleared ≡ sum_by count_ones (take l.k l.gone);
  small : l.cleared ≤ 64 * l.k;
}
