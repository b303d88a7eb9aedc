use Rattle.std.proofs.Common.{◌≡◌, ℕ, ◌<◌, ◌≤◌, ◌+◌, Bool, true, false, length}
use Rattle.xw_feas.specs.Board.{light_at}
use Rattle.xw_net.specs.Base.{base_bits, IsBaseBut, WasBase}
use Rattle.xw_net.specs.Spread.{bits_in}
use Rattle.xw_net.specs.Worklist.{is_marked}
use Rattle.xw_net.specs.Begin.{is_read}
use Rattle.xw_net.specs.Brought.{HasBase}
use Rattle.xw_net.proofs.Costs.BaseRowCosts.{cost_below}
use Rattle.xw_net.specs.Room.{row_at}
use Rattle.xw_net.proofs.base.read_marked.Given as goal

abbrev pub invariant-loop-light : goal.invariant-loop-light
invariant-loop-light g l = record {
  same : g.R.Rows.entries l.rows ≡ g.R.Rows.entries l.fn.rows;
  risen : g.R.Rows.ticks l.fn.rows ≤ g.R.Rows.ticks l.rows;
  base : HasBase l.board (g.R.Rows.entries l.fn.rows) l.base;
  on : (light : ℕ) → light < l.light → is_read l.board l.word (is_marked l.list.marks) light ≡ true → IsBaseBut l.board (light_at l.board light) (g.R.Rows.entries l.fn.rows (length (light_at l.board light))) l.word (bits_in l.fn.base light) → WasBase l.board (g.R.Rows.entries l.fn.rows) l.filled light (bits_in l.fn.base light) → bits_in l.base light ≡ base_bits l.board (light_at l.board light) (g.R.Rows.entries l.fn.rows (length (light_at l.board light)));
  later : (light : ℕ) → l.light ≤ light → bits_in l.base light ≡ bits_in l.fn.base light;
  off : (light : ℕ) → is_read l.board l.word (is_marked l.list.marks) light ≡ false → bits_in l.base light ≡ bits_in l.fn.base light;
  row_room : (other : ℕ) → (row_at l.fn.base other).room ≤ (row_at l.base other).room;
  spent : (member : ℕ → Bool) → ((light : ℕ) → light < length l.board.lights → is_read l.board l.word (is_marked l.list.marks) light ≡ true → member light ≡ true) → g.R.Rows.ticks l.rows ≤ g.R.Rows.ticks l.fn.rows + cost_below l.board (g.R.Rows.entries l.fn.rows) member l.light;
}
