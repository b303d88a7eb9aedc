use Rattle.std.proofs.Common.{◌≡◌, ◌<◌, ◌≤◌, ℕ, true}
use Rattle.xw_words.specs.Dictionary.{Dictionary, known_words}
use Rattle.xw_feas.specs.Flags.{set_has}
use Rattle.xw_net.specs.Marks.{IsSetting, cell_at}
use Rattle.xw_net.specs.Due.{Measure, IsUnderway, and_light}
use Rattle.xw_net.specs.Nets.{IsShaped, IsLeft, left_of, marks_of, letter_stands, queued_in}
use Rattle.xw_net.specs.Steps.{IsStruckFrom, WaitMore, PendAtSlots}
use Rattle.xw_net.proofs.net.Net.pass_light.Given as goal

abbrev pub invariant-loop-position : goal.invariant-loop-position
invariant-loop-position l = record {
  shaped : IsShaped l.board l.self;
  rest : IsLeft l.fn.self l.self;
  same : IsStruckFrom l.fn.self l.self;
  fewer : left_of l.self ≤ left_of l.fn.self;
  waits : WaitMore l.fn.self l.self;
  pending : PendAtSlots l.board l.fn.self l.self;
  listed : (position letter : ℕ) → position < l.position → letter_stands l.self (cell_at l.board l.light position) letter ≡ true → set_has l.listed position letter ≡ true;
  kept : (ticks : ℕ) (dictionary : Dictionary) (measure : Measure) → IsSetting l.board (known_words l.bank.words) dictionary → measure.member l.light ≡ true
      → IsUnderway l.board dictionary measure (marks_of l.fn.self) (and_light (queued_in l.fn.self) l.light) ticks → IsUnderway l.board dictionary measure (marks_of l.self) (and_light (queued_in l.self) l.light) ticks;
}
