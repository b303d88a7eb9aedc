use Rattle.std.proofs.Common.{◌≡◌, true}
use Rattle.std.specs.Prelude.{count_by, is_some}
use Rattle.xw_search.specs.Position.{position_of, DiffersInEntries}
use Rattle.xw_search.specs.Lights.{lacks_words}
use Rattle.xw_search.specs.Writing.{entries_of}
use Rattle.xw_fill.specs.Reason.{IsPart}
use Rattle.xw_fill.proofs.why.sparing.spare_all.Given as goal

abbrev pub invariant-loop-light : goal.invariant-loop-light
invariant-loop-light g l =
    let start = g.E.Feasible.state l.initial.engine in
    let now = g.E.Feasible.state l.engine in
    record {
      rest : DiffersInEntries start now;
      part : IsPart (entries_of now) (entries_of start);
      dead : lacks_words (position_of now) l.light ≡ true;
    }

abbrev pub decreases-loop-light : goal.decreases-loop-light
decreases-loop-light g l = count_by is_some (entries_of (g.E.Feasible.state l.engine))
