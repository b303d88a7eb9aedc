use Rattle.std.proofs.Common.{◌≡◌, ◌⊎◌, ℕ, ◌+◌, ◌*◌, ◌<◌, ◌≤◌, length, get_or}
use Rattle.xw_net.specs.Inner.Forget.{cut}
use Rattle.xw_net.proofs.forget.forget_slot.Given as goal

abbrev pub invariant-loop-number : goal.invariant-loop-number
invariant-loop-number l = record {
  len : length l.held ≡ length l.fn.held;
  done : (k : ℕ) → k < l.number → get_or l.held (26 * l.slot + k) 0 ≡ cut l.first (get_or l.fn.held (26 * l.slot + k) 0);
  left : (at : ℕ) → (at < 26 * l.slot) ⊎ (26 * l.slot + l.number ≤ at) → get_or l.held at 0 ≡ get_or l.fn.held at 0;
}
