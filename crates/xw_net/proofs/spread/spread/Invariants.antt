use Rattle.std.proofs.Common.{◌≡◌, ◌≤◌, ◌+◌, ℕ, true, length}
use Rattle.xw_feas.specs.Flags.{set_has}
use Rattle.xw_net.specs.Spread.{barren_positions, lit, IsSpread, Reaches, IsLit, IsListed}
use Rattle.xw_net.specs.Worklist.{is_marked, is_waiting, unmarked}
use Rattle.xw_net.specs.Room.{row_at}
use Rattle.xw_net.proofs.spread.spread.Given as goal

abbrev pub invariant-loop-light : goal.invariant-loop-light
invariant-loop-light l = record {
  letters_len : length l.letters ≡ length l.fn.letters;
  size : length l.chain.marks ≡ length l.fn.chain.marks;
  marked : (light : ℕ) → is_waiting l.chain.lights light ≡ true → is_marked l.chain.marks light ≡ true;
  more : (light : ℕ) → is_marked l.fn.chain.marks light ≡ true → is_marked l.chain.marks light ≡ true;
  row_room : (other : ℕ) → (row_at l.fn.rows other).room ≤ (row_at l.rows other).room;
  listed : IsListed l.fn.queue → IsListed l.queue;
  lit : IsLit l.board l.base (lit l.fn.rows l.fn.entered l.fn.restart l.fn.queue) (lit l.rows l.entered l.restart l.queue) (is_marked l.chain.marks) (is_waiting l.chain.lights);
  spread : IsSpread l.board (set_has l.fn.letters) (set_has l.letters) (is_marked l.chain.marks) (is_waiting l.chain.lights) (barren_positions l.board l.base);
  within : Reaches l.board (set_has l.fn.letters) l.fn.chain l.chain;
}

abbrev pub decreases-loop-light : goal.decreases-loop-light
decreases-loop-light l = length l.chain.lights + unmarked l.chain.marks
