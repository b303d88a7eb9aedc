use Rattle.std.proofs.Common.{◌≡◌, ◌≤◌, ◌<◌, ◌+◌, ◌-◌, ℕ, false, length, get_or}
use Rattle.xw_bits.proofs.ones.next_one.Given as goal

abbrev pub invariant-loop-chunk : goal.invariant-loop-chunk
invariant-loop-chunk l = record {
  on : l.from ≤ l.at;
  clear : (i : ℕ) → l.from ≤ i → i < l.at → get_or l.row.bits i false ≡ false;
}

abbrev pub decreases-loop-chunk : goal.decreases-loop-chunk
decreases-loop-chunk l = length l.row.bits + 64 - l.at
