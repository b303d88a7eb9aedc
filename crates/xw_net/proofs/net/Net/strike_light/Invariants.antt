use Rattle.std.proofs.Common.{◌≡◌, ◌≤◌, ◌<◌, ℕ, true, false}
use Rattle.xw_words.specs.Dictionary.{Dictionary}
use Rattle.xw_net.specs.Marks.{IsSetting, slot_at}
use Rattle.xw_net.specs.Due.{Measure, IsUnderway}
use Rattle.xw_net.specs.Nets.{IsShaped, IsLeft, HasBits, marks_of, pending_in, queued_in}
use Rattle.xw_net.specs.Steps.{IsStruckAt}
use Rattle.xw_net.proofs.net.Net.strike_light.Given as goal

abbrev pub invariant-loop-position : goal.invariant-loop-position
invariant-loop-position g l = record {
  same : g.R.Rows.entries l.rows ≡ g.R.Rows.entries l.fn.rows;
  risen : g.R.Rows.ticks l.fn.rows ≤ g.R.Rows.ticks l.rows;
  rest : IsLeft l.fn.self l.self;
  shaped : IsShaped l.board l.self;
  bits : HasBits l.board (g.R.Rows.entries l.fn.rows) l.self;
  letters : l.self.letters ≡ l.fn.self.letters;
  held : l.self.held ≡ l.fn.self.held;
  queue : l.self.queue ≡ l.fn.self.queue;
  cleared : (position letter : ℕ) → position < l.position → pending_in l.self (slot_at l.board l.light position) letter ≡ false;
  less : (slot letter : ℕ) → pending_in l.fn.self slot letter ≡ false → pending_in l.self slot letter ≡ false;
  only : IsStruckAt l.light l.fn.self l.self;
  kept : (dictionary : Dictionary) (measure : Measure) → IsSetting l.board (g.R.Rows.entries l.fn.rows) dictionary → queued_in l.fn.self l.light ≡ true → measure.member l.light ≡ true
      → IsUnderway l.board dictionary measure (marks_of l.fn.self) (queued_in l.fn.self) (g.R.Rows.ticks l.fn.rows) → IsUnderway l.board dictionary measure (marks_of l.self) (queued_in l.self) (g.R.Rows.ticks l.rows);
}
