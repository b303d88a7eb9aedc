use Rattle.std.proofs.Common.{◌≡◌, ◌⊎◌, ◌<◌, ◌≤◌, ◌+◌, ◌-◌, ℕ, true}
use Rattle.xw_letters.specs.LetterSet.{has}
use Rattle.xw_words.specs.Dictionary.{Dictionary}
use Rattle.xw_net.specs.Marks.{IsHolding, IsSlot, IsSetting, IsHeld, Stays, cell_at}
use Rattle.xw_net.specs.Due.{Measure, IsUnderway, and_light}
use Rattle.xw_net.specs.Nets.{IsShaped, IsLeft, HasBits, Waits, left_of, marks_of, letter_stands, pending_in, queued_in}
use Rattle.xw_net.proofs.net.Net.keep_position.Given as goal

abbrev pub invariant-loop-number : goal.invariant-loop-number
invariant-loop-number g l = record {
  within : l.from ≤ 26;
  alive : (cell letter : ℕ) → letter_stands l.self cell letter ≡ true → letter_stands l.fn.self cell letter ≡ true;
  entered : l.self.entered.items ≡ l.fn.self.entered.items;
  left : (letter : ℕ) → 65 + l.from ≤ letter → has l.alive letter ≡ true → letter_stands l.self l.here.cell letter ≡ true;
  same : g.R.Rows.entries l.rows ≡ g.R.Rows.entries l.fn.rows;
  risen : g.R.Rows.ticks l.fn.rows ≤ g.R.Rows.ticks l.rows;
  rest : IsLeft l.fn.self l.self;
  shaped : IsShaped l.board l.self;
  bits : HasBits l.board (g.R.Rows.entries l.fn.rows) l.self;
  fewer : left_of l.self ≤ left_of l.fn.self;
  waits : (other : ℕ) → Waits l.fn.self other → Waits l.self other;
  held : (dictionary : Dictionary) → IsSetting l.board (g.R.Rows.entries l.fn.rows) dictionary → (letter : ℕ) → letter < 65 + l.from
      → letter_stands l.self (cell_at l.board l.light l.position) letter ≡ true → IsHeld l.board dictionary (marks_of l.self) l.light l.position letter;
  stays : (dictionary : Dictionary) → IsSetting l.board (g.R.Rows.entries l.fn.rows) dictionary → Stays l.board dictionary l.light (marks_of l.fn.self) (marks_of l.self);
  holding : (dictionary : Dictionary) → IsSetting l.board (g.R.Rows.entries l.fn.rows) dictionary → IsHolding l.board dictionary (marks_of l.fn.self) → IsHolding l.board dictionary (marks_of l.self);
  pending : (slot letter : ℕ) → pending_in l.self slot letter ≡ true → (pending_in l.fn.self slot letter ≡ true) ⊎ IsSlot l.board slot;
  kept : (dictionary : Dictionary) (measure : Measure) → IsSetting l.board (g.R.Rows.entries l.fn.rows) dictionary → measure.member l.light ≡ true
      → IsUnderway l.board dictionary measure (marks_of l.fn.self) (and_light (queued_in l.fn.self) l.light) (g.R.Rows.ticks l.fn.rows) → IsUnderway l.board dictionary measure (marks_of l.self) (and_light (queued_in l.self) l.light) (g.R.Rows.ticks l.rows);
}

abbrev pub decreases-loop-number : goal.decreases-loop-number
decreases-loop-number g l = 26 - l.from
