use Rattle.std.proofs.Common.{◌≡◌, ◌++◌, take}
use Rattle.std.specs.Prelude.{flat_map}
use Rattle.xw_grid.specs.Grid.{cells}
use Rattle.xw_session.specs.Reports.{letters_told}
use Rattle.xw_session.proofs.session.telling.write_cells.Given as goal

abbrev pub invariant-loop-index : goal.invariant-loop-index
invariant-loop-index g l = record {
  transcript : g.W.Sink.transcript l.sink ≡ g.W.Sink.transcript l.initial.sink ++ flat_map (letters_told (g.E.Feasible.state l.engine)) (take l.index (cells (g.E.Feasible.state l.engine).grid));
  quiet : g.W.Sink.failures l.sink ≡ g.W.Sink.failures l.initial.sink;
}
