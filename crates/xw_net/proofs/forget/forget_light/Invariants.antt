use Rattle.std.proofs.Common.{◌≡◌, ℕ, ◌+◌, ◌-◌, ◌*◌, ◌<◌, true, false, length, get_or}
use Rattle.xw_letters.specs.Letter.{is_capital}
use Rattle.xw_feas.specs.Flags.{set_has}
use Rattle.xw_net.specs.Marks.{slot_at}
use Rattle.xw_net.specs.Inner.Forget.{cut}
use Rattle.xw_net.proofs.forget.forget_light.Given as goal

abbrev pub invariant-loop-position : goal.invariant-loop-position
invariant-loop-position l = record {
  held : length l.held ≡ length l.fn.held;
  pending : length l.pending ≡ length l.fn.pending;
  cuts : (position letter : ℕ) → position < l.position → is_capital letter ≡ true → get_or l.held (26 * slot_at l.board l.light position + (letter - 65)) 0 ≡ cut l.first (get_or l.fn.held (26 * slot_at l.board l.light position + (letter - 65)) 0);
  others : (slot letter : ℕ) → ((position : ℕ) → position < l.position → slot_at l.board l.light position ≡ slot → ⊥) → is_capital letter ≡ true → get_or l.held (26 * slot + (letter - 65)) 0 ≡ get_or l.fn.held (26 * slot + (letter - 65)) 0;
  less : (slot letter : ℕ) → set_has l.pending slot letter ≡ true → set_has l.fn.pending slot letter ≡ true;
  cleared : (position letter : ℕ) → position < l.position → set_has l.pending (slot_at l.board l.light position) letter ≡ false;
}
