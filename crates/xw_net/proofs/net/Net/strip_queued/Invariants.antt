use Rattle.std.proofs.Common.{◌≡◌, ◌≤◌, ◌⊎◌, ℕ, true}
use Rattle.xw_words.specs.Dictionary.{Dictionary}
use Rattle.xw_net.specs.Marks.{IsHolding, IsSlot, IsSetting}
use Rattle.xw_net.specs.Due.{Measure, IsUnderway}
use Rattle.xw_net.specs.Nets.{IsShaped, IsLeft, HasBits, IsQueue, left_of, marks_of, pending_in, queued_in}
use Rattle.xw_net.proofs.net.Net.strip_queued.Given as goal

abbrev pub invariant-loop-light : goal.invariant-loop-light
invariant-loop-light g l = record {
  same : g.R.Rows.entries l.rows ≡ g.R.Rows.entries l.fn.rows;
  risen : g.R.Rows.ticks l.fn.rows ≤ g.R.Rows.ticks l.rows;
  rest : IsLeft l.fn.self l.self;
  shaped : IsShaped l.board l.self;
  bits : HasBits l.board (g.R.Rows.entries l.fn.rows) l.self;
  queue : IsQueue l.self;
  holding : (dictionary : Dictionary) → IsSetting l.board (g.R.Rows.entries l.fn.rows) dictionary → IsHolding l.board dictionary (marks_of l.fn.self) → IsHolding l.board dictionary (marks_of l.self);
  pending : (slot letter : ℕ) → pending_in l.self slot letter ≡ true → (pending_in l.fn.self slot letter ≡ true) ⊎ IsSlot l.board slot;
  kept : (dictionary : Dictionary) (measure : Measure) → IsSetting l.board (g.R.Rows.entries l.fn.rows) dictionary
      → IsUnderway l.board dictionary measure (marks_of l.fn.self) (queued_in l.fn.self) (g.R.Rows.ticks l.fn.rows) → IsUnderway l.board dictionary measure (marks_of l.self) (queued_in l.self) (g.R.Rows.ticks l.rows);
}

abbrev pub decreases-loop-light : goal.decreases-loop-light
decreases-loop-light g l = left_of l.self
