use Rattle.std.proofs.Common.{◌≡◌, ◌⊎◌, ◌+◌, ◌*◌, ◌<◌, ◌≤◌, ℕ, length, get_or}
use Rattle.xw_net.specs.Seen.{IsSeenAt}
use Rattle.xw_net.proofs.Levels.FoundLetters.{AreFoundBut}
use Rattle.xw_net.proofs.seen.found_letters.Given as goal

abbrev pub invariant-loop-number : goal.invariant-loop-number
invariant-loop-number g l = record {
  same : g.R.Rows.entries l.rows ≡ g.R.Rows.entries l.fn.rows;
  risen : g.R.Rows.ticks l.fn.rows ≤ g.R.Rows.ticks l.rows;
  len : length l.seen ≡ length l.fn.seen;
  others : (index : ℕ) → (index < 26 * l.here.slot) ⊎ (26 * l.here.slot + 26 ≤ index) → get_or l.seen index 0 ≡ get_or l.fn.seen index 0;
  seen : IsSeenAt (g.R.Rows.entries l.fn.rows l.here.len) l.here.position l.here.slot l.seen;
  found : AreFoundBut l.row.bits (g.R.Rows.entries l.fn.rows l.here.len) l.here.position l.fn.alive l.found l.left;
}

abbrev pub decreases-loop-number : goal.decreases-loop-number
decreases-loop-number g l = l.left
