use Rattle.std.proofs.Common.{◌≡◌, ◌++◌, take}
use Rattle.std.specs.Prelude.{flat_map}
use Rattle.xw_grid.specs.Grid.{cells}
use Rattle.xw_answers.specs.Record.{command_lines, cell_commands}
use Rattle.xw_answers.proofs.record.write_part.Given as goal

abbrev pub invariant-loop-index : goal.invariant-loop-index
invariant-loop-index g l = record {
  transcript : g.W.Sink.transcript l.sink ≡ g.W.Sink.transcript l.initial.sink ++ flat_map (λ cell. command_lines (cell_commands l.grid l.clues l.circles l.part cell)) (take l.index (cells l.grid));
  quiet : g.W.Sink.failures l.sink ≡ g.W.Sink.failures l.initial.sink;
}
