use Rattle.std.proofs.Common.{◌≡◌, ◌++◌, take}
use Rattle.std.specs.Prelude.{flat_map}
use Rattle.xw_grid.specs.Grid.{Grid, cells}
use Rattle.xw_answers.specs.Record.{command_lines}
use Rattle.xw_journal.specs.Journal.{entered_at, HasEntriesBefore}
use Rattle.xw_journal.proofs.journal.write_entered.Given as goal

abbrev pub invariant-loop-index : goal.invariant-loop-index
invariant-loop-index g l = record {
  transcript : (was : Grid) → HasEntriesBefore was l.grid l.before
      → g.J.Sink.transcript l.journal ≡ g.J.Sink.transcript l.initial.journal ++ flat_map (λ cell. command_lines (entered_at was l.grid cell)) (take l.index (cells l.grid));
  quiet : g.J.Sink.failures l.journal ≡ g.J.Sink.failures l.initial.journal;
}
