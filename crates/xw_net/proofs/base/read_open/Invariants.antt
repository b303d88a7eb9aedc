use Rattle.std.proofs.Common.{◌≡◌, ℕ, ◌+◌, ◌*◌, ◌≤◌, false, length, get_or}
use Rattle.xw_words.specs.Dictionary.{entry_at}
use Rattle.xw_net.specs.Region.{chunks_of}
use Rattle.xw_net.proofs.BaseRows.BaseBits.{base_so_far}
use Rattle.xw_net.proofs.base.read_open.Given as goal

-- the words that agree with the first entries
abbrev pub invariant-loop-position : goal.invariant-loop-position
invariant-loop-position g l = record {
  same : g.R.Rows.entries l.rows ≡ g.R.Rows.entries l.fn.rows;
  risen : g.R.Rows.ticks l.fn.rows ≤ g.R.Rows.ticks l.rows;
  spent : g.R.Rows.ticks l.rows ≤ g.R.Rows.ticks l.fn.rows + (l.position + 1) * chunks_of (length l.fn.row.bits);
  long : length l.row.bits ≡ length l.fn.row.bits;
  bits : (i : ℕ) → get_or l.row.bits i false ≡ base_so_far l.board l.cells l.position (entry_at (g.R.Rows.entries l.fn.rows (length l.cells)) i);
  room : l.row.room ≡ l.fn.row.room;
}
