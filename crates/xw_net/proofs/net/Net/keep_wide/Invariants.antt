use Rattle.std.proofs.Common.{◌≡◌, ◌<◌, ◌≤◌, ℕ, true}
use Rattle.xw_words.specs.Dictionary.{Dictionary}
use Rattle.xw_net.specs.Due.{Measure, IsUnderway, and_light}
use Rattle.xw_net.specs.Marks.{IsSetting}
use Rattle.xw_net.specs.Nets.{IsShaped, IsLeft, HasBits, left_of, marks_of, queued_in}
use Rattle.xw_net.specs.Seen.{AreSeen}
use Rattle.xw_net.specs.Steps.{IsStruckFrom, WaitMore, PendAtSlots, ArePositionHeld}
use Rattle.xw_net.proofs.net.Net.keep_wide.Given as goal

abbrev pub invariant-loop-position : goal.invariant-loop-position
invariant-loop-position g l = record {
  entries : g.R.Rows.entries l.rows ≡ g.R.Rows.entries l.fn.rows;
  risen : g.R.Rows.ticks l.fn.rows ≤ g.R.Rows.ticks l.rows;
  seen : AreSeen l.board (g.R.Rows.entries l.fn.rows) l.seen;
  shaped : IsShaped l.board l.self;
  bits : HasBits l.board (g.R.Rows.entries l.fn.rows) l.self;
  rest : IsLeft l.fn.self l.self;
  same : IsStruckFrom l.fn.self l.self;
  fewer : left_of l.self ≤ left_of l.fn.self;
  waits : WaitMore l.fn.self l.self;
  pending : PendAtSlots l.board l.fn.self l.self;
  held : (position : ℕ) → position < l.position → ArePositionHeld l.board (g.R.Rows.entries l.fn.rows) l.self l.light position;
  kept : (ticks : ℕ) (dictionary : Dictionary) (measure : Measure) → IsSetting l.board (g.R.Rows.entries l.fn.rows) dictionary → measure.member l.light ≡ true
      → IsUnderway l.board dictionary measure (marks_of l.fn.self) (and_light (queued_in l.fn.self) l.light) ticks → IsUnderway l.board dictionary measure (marks_of l.self) (and_light (queued_in l.self) l.light) ticks;
}
