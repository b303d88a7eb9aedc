use Rattle.std.proofs.Common.{◌≡◌, ◌<◌, ℕ, true, length, get_or}
use Rattle.xw_letters.specs.Letter.{is_capital}
use Rattle.xw_feas.specs.Flags.{set_has}
use Rattle.xw_net.specs.Marks.{slot_at}
use Rattle.xw_net.proofs.spread.restart_light.Given as goal

abbrev pub invariant-loop-position : goal.invariant-loop-position
invariant-loop-position l = record {
  len : length l.restart ≡ length l.fn.restart;
  on : (position letter : ℕ) → position < l.position → is_capital letter ≡ true → set_has l.restart (slot_at l.board l.light position) letter ≡ true;
  off : (slot : ℕ) → ((position : ℕ) → position < l.position → slot_at l.board l.light position ≡ slot → ⊥) → get_or l.restart slot 0 ≡ get_or l.fn.restart slot 0;
  more : (slot letter : ℕ) → is_capital letter ≡ true → set_has l.fn.restart slot letter ≡ true → set_has l.restart slot letter ≡ true;
}
