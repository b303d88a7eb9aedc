use Rattle.std.proofs.Common.{◌≡◌, ℕ, ◌<◌, ◌≤◌, None, length, get_or}
use Rattle.xw_search.specs.Position.{position_of}
use Rattle.xw_search.specs.Lights.{is_entered}
use Rattle.xw_fill.proofs.EnteredSinceLemmas.{IsNotedAgain}
use Rattle.xw_fill.proofs.entered_since.note_entered.Given as goal

abbrev pub invariant-loop-light : goal.invariant-loop-light
invariant-loop-light g l = record {
  long : length l.since ≡ length l.initial.since;
  again : (k : ℕ) → k < l.light → IsNotedAgain (get_or l.initial.since k None) (get_or l.since k None) l.placements (is_entered (position_of (g.E.Feasible.state l.engine)) k);
  rest : (k : ℕ) → l.light ≤ k → get_or l.since k None ≡ get_or l.initial.since k None;
}
