-- Any net that is ready is underway within some budget, where ticks are not bounded.
use Rattle.std.proofs.Common.{ℕ, ◌+◌, true, refl, arith}
use Rattle.xw_words.specs.Dictionary.{Dictionary}
use Rattle.xw_feas.specs.Board.{Board}
use Rattle.xw_net.specs.Due.{Measure, IsUnderway, due}
use Rattle.xw_net.specs.Marks.{Marks, IsReady}

-- the measure of all lights
abbrev pub whole_measure : Board → Dictionary → Marks → ℕ → Measure
whole_measure board dictionary marks ticks = record { member = λ light. true; letters = marks.letters; budget = ticks + due board dictionary (λ light. true) marks }

pub ready_underway : (board : Board) (dictionary : Dictionary) (marks : Marks) (ticks : ℕ) → IsReady board dictionary marks → IsUnderway board dictionary (whole_measure board dictionary marks ticks) marks marks.queued ticks
ready_underway board dictionary marks ticks ready = record {
  kept = ready;
  paid = record { closed = λ light position other other_position letter here there meets stands lost has. refl; within = omega arith; queued = λ light lt h. refl; fewer = λ cell letter h. h };
}
