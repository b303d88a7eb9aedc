use Rattle.std.proofs.Common.{◌≡◌, ℕ, ◌<◌, ◌≤◌, Some}
use Rattle.xw_net.specs.Room.{counts_of, size_at, row_at}
use Rattle.xw_net.specs.Renumber.{same_before, bits_from, room_from}
use Rattle.xw_net.proofs.renumber.move_rows.Given as goal

-- the rows so far are moved or filled, and the others are unchanged
abbrev pub invariant-loop-light : goal.invariant-loop-light
invariant-loop-light g l = record {
  bits : (k : ℕ) → k < l.light → (row_at l.spare k).bits ≡ bits_from l.initial.rows (counts_of (g.R.Rows.entries l.words) (size_at l.after k)) (same_before l.before l.after k);
  room : (k : ℕ) → k < l.light → room_from l.initial.rows (counts_of (g.R.Rows.entries l.words) (size_at l.after k)) (same_before l.before l.after k) ≤ (row_at l.spare k).room;
  left : (k : ℕ) → l.light ≤ k → row_at l.spare k ≡ row_at l.initial.spare k;
  kept : (other : ℕ) → ((k : ℕ) → k < l.light → same_before l.before l.after k ≡ Some other → ⊥) → row_at l.rows other ≡ row_at l.initial.rows other;
}
