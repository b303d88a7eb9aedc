use Rattle.std.proofs.Common.{◌≡◌, ◌≤◌, ◌<◌, ◌-◌, ◌*◌, ◌&&◌, ℕ, false}
use Rattle.xw_bits.specs.Bits.{words_have}
use Rattle.xw_bits.proofs.summary.next_both.Given as goal

abbrev pub invariant-loop-at : goal.invariant-loop-at
invariant-loop-at l = record {
  on : l.from ≤ l.at;
  clear : (k : ℕ) → l.from ≤ k → k < l.at → (words_have l.summary k && words_have l.other k) ≡ false;
}

abbrev pub decreases-loop-at : goal.decreases-loop-at
decreases-loop-at l = 64 * l.many - l.at
