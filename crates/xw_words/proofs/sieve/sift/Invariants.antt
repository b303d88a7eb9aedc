use Rattle.std.proofs.Common.{◌≡◌, ◌≤◌, ◌<◌, ◌-◌, ◌*◌, ℕ, length, get_or, false}
use Rattle.xw_words.specs.Columns.{IsSiftedBy}
use Rattle.xw_words.proofs.sieve.sift.Given as goal

abbrev pub invariant-loop-chunk : goal.invariant-loop-chunk
invariant-loop-chunk l = record {
  long : length l.row.bits ≡ length l.fn.row.bits;
  room : l.row.room ≡ l.fn.row.room;
  inside : (i : ℕ) → i < 64 * l.from → IsSiftedBy l.columns l.list l.keep l.fn.row.bits l.row.bits i;
  above : (i : ℕ) → 64 * l.from ≤ i → get_or l.row.bits i false ≡ get_or l.fn.row.bits i false;
}

abbrev pub decreases-loop-chunk : goal.decreases-loop-chunk
decreases-loop-chunk l = length l.fn.row.bits - l.from
