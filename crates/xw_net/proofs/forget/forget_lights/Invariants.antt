use Rattle.std.proofs.Common.{◌≡◌, ℕ, ◌+◌, ◌-◌, ◌*◌, ◌<◌, ◌≤◌, true, false, length, get_or}
use Rattle.xw_letters.specs.Letter.{is_capital}
use Rattle.xw_feas.specs.Board.{light_at}
use Rattle.xw_feas.specs.Flags.{set_has}
use Rattle.xw_net.specs.Marks.{IsPositionIn, slot_at}
use Rattle.xw_net.specs.Renumber.{same_before}
use Rattle.xw_net.specs.Inner.Forget.{lose, lost_from, nowhere}
use Rattle.xw_net.specs.Change.{before_of, word_of}
use Rattle.xw_net.proofs.forget.forget_lights.Given as goal

abbrev pub invariant-loop-light : goal.invariant-loop-light
invariant-loop-light g l = record {
  held : length l.held ≡ length l.fn.held;
  pending : length l.pending ≡ length l.fn.pending;
  cuts : (light position letter : ℕ) → light < l.light → IsPositionIn l.board light position → is_capital letter ≡ true
      → get_or l.held (26 * slot_at l.board light position + (letter - 65)) 0
      ≡ lose (lost_from (word_of l.change) (same_before (before_of l.lights l.change) l.lights light) (length (light_at l.board light)) (length (g.R.Rows.entries l.rows (length (light_at l.board light))))) (get_or l.fn.held (26 * slot_at l.board light position + (letter - 65)) 0);
  left : (light position letter : ℕ) → l.light ≤ light → IsPositionIn l.board light position → is_capital letter ≡ true
      → get_or l.held (26 * slot_at l.board light position + (letter - 65)) 0 ≡ get_or l.fn.held (26 * slot_at l.board light position + (letter - 65)) 0;
  less : (slot letter : ℕ) → set_has l.pending slot letter ≡ true → set_has l.fn.pending slot letter ≡ true;
  cleared : (light position letter : ℕ) → light < l.light → IsPositionIn l.board light position
      → lost_from (word_of l.change) (same_before (before_of l.lights l.change) l.lights light) (length (light_at l.board light)) (length (g.R.Rows.entries l.rows (length (light_at l.board light)))) < nowhere
      → set_has l.pending (slot_at l.board light position) letter ≡ false;
}
