use Rattle.std.proofs.Common.{◌≡◌, ◌+◌, ◌*◌, ◌≤◌, length}
use Rattle.xw_net.specs.Base.{KeepsEntry}
use Rattle.xw_net.specs.Region.{chunks_of}
use Rattle.xw_net.proofs.base.keep_entry.Given as goal

abbrev pub invariant-loop-position : goal.invariant-loop-position
invariant-loop-position g l = record {
  same : g.R.Rows.entries l.rows ≡ g.R.Rows.entries l.fn.rows;
  risen : g.R.Rows.ticks l.fn.rows ≤ g.R.Rows.ticks l.rows;
  spent : g.R.Rows.ticks l.rows ≤ g.R.Rows.ticks l.fn.rows + l.position * chunks_of (length l.fn.row.bits);
  long : length l.row.bits ≡ length l.fn.row.bits;
  keeps : KeepsEntry l.board l.cells (g.R.Rows.entries l.fn.rows) l.cell l.position l.fn.row.bits l.row.bits;
  room : l.row.room ≡ l.fn.row.room;
}
