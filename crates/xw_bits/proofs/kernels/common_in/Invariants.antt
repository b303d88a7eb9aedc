use Rattle.std.proofs.Common.{◌≡◌, ◌<◌, ◌+◌, ℕ, true, false, bit_and, get_or}
use Rattle.xw_bits.specs.Bits.{has_bit}
use Rattle.xw_bits.proofs.kernels.common_in.Given as goal

-- the marks that are left, and the words whose marks are gone
abbrev pub invariant-loop-left : goal.invariant-loop-left
invariant-loop-left l = record {
  own : (k : ℕ) → has_bit l.left k ≡ true → has_bit l.marks k ≡ true;
  passed : (k : ℕ) → k < 64 → has_bit l.marks k ≡ true → has_bit l.left k ≡ false → bit_and (get_or l.words (l.first + k) 0) (get_or l.other (l.first + k) 0) ≡ 0;
}

abbrev pub decreases-loop-left : goal.decreases-loop-left
decreases-loop-left l = l.left
