use Rattle.std.proofs.Common.{◌≡◌, ◌<◌, ◌≤◌, ◌+◌, ℕ, true, false, get_or}
use Rattle.xw_bits.specs.Bits.{has_bit}
use Rattle.xw_bits.proofs.kernels.copy_part.Given as goal

-- the marks that are left, and the words without one are copied
abbrev pub invariant-loop-left : goal.invariant-loop-left
invariant-loop-left l = record {
  own : (k : ℕ) → has_bit l.left k ≡ true → has_bit l.marks k ≡ true;
  below : (k : ℕ) → k < l.first → get_or l.words k 0 ≡ get_or l.initial.words k 0;
  copied : (k : ℕ) → k < 64 → has_bit l.left k ≡ false → get_or l.words (l.first + k) 0 ≡ get_or l.other (l.first + k) 0;
  above : (k : ℕ) → l.first + 64 ≤ k → get_or l.words k 0 ≡ get_or l.initial.words k 0;
}

abbrev pub decreases-loop-left : goal.decreases-loop-left
decreases-loop-left l = l.left
