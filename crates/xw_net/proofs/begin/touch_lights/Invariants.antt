use Rattle.std.proofs.Common.{◌≡◌, ◌≤◌, ◌<◌, ℕ, true, false, length}
use Rattle.xw_feas.specs.Board.{light_at}
use Rattle.xw_net.specs.Spread.{bits_in}
use Rattle.xw_net.specs.Worklist.{is_marked, Adds}
use Rattle.xw_net.specs.Begin.{IsSeed, IsNarrowedRow}
use Rattle.xw_net.specs.Room.{row_at}
use Rattle.xw_net.proofs.begin.touch_lights.Given as goal

abbrev pub invariant-loop-light : goal.invariant-loop-light
invariant-loop-light l = record {
  len : length l.rows ≡ length l.fn.rows;
  row_room : (other : ℕ) → (row_at l.fn.rows other).room ≤ (row_at l.rows other).room;
  on : (light : ℕ) → light < l.light → is_marked l.queue.marks light ≡ true → IsNarrowedRow l.word (length (light_at l.board light)) (bits_in l.fn.rows light) (bits_in l.base light) (bits_in l.rows light);
  rest : (light : ℕ) → l.light ≤ light → bits_in l.rows light ≡ bits_in l.fn.rows light;
  off : (light : ℕ) → is_marked l.queue.marks light ≡ false → bits_in l.rows light ≡ bits_in l.fn.rows light;
  chain : Adds (λ other. (other < l.light) × ((is_marked l.queue.marks other ≡ true) × IsSeed l.board l.word l.base other)) l.fn.chain l.chain;
}
