use Rattle.std.proofs.Common.{◌≡◌, ◌<◌, ◌≤◌, ◌+◌, ◌-◌, ◌*◌, ℕ, not, ltb, bit_and, get_or}
use Rattle.xw_bits.specs.Bits.{has_bit}
use Rattle.xw_bits.proofs.kernels.next_common.Given as goal

-- the mask has the marks of the words from `from` on
abbrev pub invariant-loop-part : goal.invariant-loop-part
invariant-loop-part l = record {
  near : l.from < 64 * l.part + 64;
  mask : (k : ℕ) → k < 64 → has_bit l.mask k ≡ not (ltb (64 * l.part + k) l.from);
  clear : (k : ℕ) → l.from ≤ k → k < 64 * l.part → bit_and (get_or l.words k 0) (get_or l.other k 0) ≡ 0;
}

abbrev pub decreases-loop-part : goal.decreases-loop-part
decreases-loop-part l = l.many - l.part
