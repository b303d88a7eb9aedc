use Rattle.std.proofs.Common.{◌≡◌, ◌+◌, ◌-◌, ◌*◌, ◌≤◌, length}
use Rattle.xw_net.specs.Tally.{row_tally}
use Rattle.xw_net.proofs.tally.count_row.Given as goal

abbrev pub invariant-loop-chunk : goal.invariant-loop-chunk
invariant-loop-chunk g l = record {
  entries : g.R.Rows.entries l.rows ≡ g.R.Rows.entries l.initial.rows;
  tally : l.total ≡ row_tally l.row.bits (g.R.Rows.entries l.initial.rows l.len) l.position l.letter 0 (64 * l.from);
  small : l.total ≤ 64 * l.from;
  within : 64 * l.from ≤ length l.row.bits + 64;
}

abbrev pub decreases-loop-chunk : goal.decreases-loop-chunk
decreases-loop-chunk g l = length l.row.bits + 64 - l.from
