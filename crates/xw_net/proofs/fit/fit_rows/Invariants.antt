use Rattle.std.proofs.Common.{◌≡◌, ℕ, ◌<◌, ◌≤◌, length}
use Rattle.xw_net.specs.Room.{row_at, size_at}
use Rattle.xw_net.specs.Fit.{fitted}
use Rattle.xw_net.proofs.fit.fit_rows.Given as goal

-- the rows so far have their bits, and the others are unchanged
abbrev pub invariant-loop-light : goal.invariant-loop-light
invariant-loop-light g l = record {
  done : (k : ℕ) → k < l.light → (row_at l.rows k).bits ≡ fitted (length (g.R.Rows.entries l.words (size_at l.lights k))) (row_at l.initial.rows k).bits;
  left : (k : ℕ) → l.light ≤ k → row_at l.rows k ≡ row_at l.initial.rows k;
  more : (k : ℕ) → (row_at l.initial.rows k).room ≤ (row_at l.rows k).room;
}
