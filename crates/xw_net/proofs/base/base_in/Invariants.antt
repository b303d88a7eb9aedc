use Rattle.std.proofs.Common.{◌≡◌, ℕ, ◌+◌, ◌*◌, ◌<◌, ◌≤◌, length}
use Rattle.xw_bits.specs.Bits.{has_bit}
use Rattle.xw_words.specs.Dictionary.{entry_at}
use Rattle.xw_net.proofs.BaseRows.BaseBits.{base_so_far}
use Rattle.xw_net.proofs.base.base_in.Given as goal

-- the bits are those of the words that agree with the first entries
abbrev pub invariant-loop-position : goal.invariant-loop-position
invariant-loop-position g l = record {
  same : g.R.Rows.entries l.rows ≡ g.R.Rows.entries l.fn.rows;
  risen : g.R.Rows.ticks l.fn.rows ≤ g.R.Rows.ticks l.rows;
  spent : g.R.Rows.ticks l.rows ≤ g.R.Rows.ticks l.fn.rows + (l.position + 1);
  words : (k : ℕ) → k < 64 → has_bit l.words k ≡ base_so_far l.board l.cells l.position (entry_at (g.R.Rows.entries l.fn.rows (length l.cells)) (64 * l.chunk + k));
}
