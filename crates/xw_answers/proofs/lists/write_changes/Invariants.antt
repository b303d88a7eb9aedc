use Rattle.std.proofs.Common.{◌≡◌, ◌++◌, ℕ, List}
use Rattle.std.specs.Prelude.{flat_map}
use Rattle.xw_feas.specs.Changed.{changes_left}
use Rattle.xw_feas.specs.Changes.{spelled_out}
use Rattle.xw_answers.specs.Text.{change_line}
use Rattle.xw_answers.proofs.lists.write_changes.Given as goal

-- the first cells are written or buffered, and the iterator has the others
abbrev pub invariant-loop-change : goal.invariant-loop-change
invariant-loop-change g l = (sent : List ℕ) × record {
  transcript : g.W.Sink.transcript l.sink ≡ g.W.Sink.transcript l.initial.sink ++ sent;
  left : flat_map change_line (spelled_out (changes_left l.fn.changed)) ≡ (sent ++ l.lines) ++ flat_map change_line (spelled_out (changes_left l.change-iterator));
  quiet : g.W.Sink.failures l.sink ≡ g.W.Sink.failures l.initial.sink;
}
