use Rattle.std.proofs.Common.{◌≡◌, ◌++◌, ℕ, List, take}
use Rattle.std.specs.Prelude.{flat_map}
use Rattle.xw_search.specs.Position.{position_of}
use Rattle.xw_fill.specs.Words.{words_left}
use Rattle.xw_session.specs.Choices.{choice_line, choice_lines}
use Rattle.xw_session.proofs.session.choosing.write_choices.Given as goal

-- the first lines are sent, and those of the words from an index on are left
abbrev pub invariant-loop-left : goal.invariant-loop-left
invariant-loop-left g l =
    let start = g.E.Feasible.state l.initial.engine in
    (sent : List ℕ) × record {
      same : g.E.Feasible.state l.engine ≡ start;
      transcript : g.W.Sink.transcript l.sink ≡ g.W.Sink.transcript l.initial.sink ++ sent;
      left : choice_lines start l.light l.fn.first l.most ≡ sent ++ flat_map (choice_line start l.light) (take l.left (words_left (position_of start) l.light l.from));
      quiet : g.W.Sink.failures l.sink ≡ g.W.Sink.failures l.initial.sink;
    }

abbrev pub decreases-loop-left : goal.decreases-loop-left
decreases-loop-left g l = l.left
