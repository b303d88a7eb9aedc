use Rattle.std.proofs.Common.{◌≡◌, ◌<◌, ◌≤◌, ◌*◌, ℕ, get_or}
use Rattle.xw_bits.proofs.kernels.copy_marked.Given as goal

-- the parts so far are copied, and the others are unchanged
abbrev pub invariant-loop-part : goal.invariant-loop-part
invariant-loop-part l = record {
  done : (k : ℕ) → k < 64 * l.part → get_or l.words k 0 ≡ get_or l.other k 0;
  left : (k : ℕ) → 64 * l.part ≤ k → get_or l.words k 0 ≡ get_or l.initial.words k 0;
  done_marks : (k : ℕ) → k < l.part → get_or l.summary k 0 ≡ get_or l.other_summary k 0;
  left_marks : (k : ℕ) → l.part ≤ k → get_or l.summary k 0 ≡ get_or l.initial.summary k 0;
}
