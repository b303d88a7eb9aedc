use Rattle.std.proofs.Common.{◌≡◌, ℕ, ◌<◌, ◌≤◌, false, get_or}
use Rattle.xw_net.specs.Renumber.{same_before, flag_from}
use Rattle.xw_net.proofs.renumber.move_flags.Given as goal

-- the flags so far are moved, and the others are false
abbrev pub invariant-loop-light : goal.invariant-loop-light
invariant-loop-light l = record {
  done : (k : ℕ) → k < l.light → get_or l.spare k false ≡ flag_from l.flags (same_before l.before l.after k);
  left : (k : ℕ) → l.light ≤ k → get_or l.spare k false ≡ false;
}
