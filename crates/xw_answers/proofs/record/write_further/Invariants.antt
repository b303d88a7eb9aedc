use Rattle.std.proofs.Common.{◌≡◌, ◌++◌, take}
use Rattle.std.specs.Prelude.{flat_map}
use Rattle.std.specs.List.{range_with_len}
use Rattle.xw_answers.specs.Spelling.{command_line}
use Rattle.xw_answers.specs.Record.{more_command, further_pieces}
use Rattle.xw_answers.proofs.record.write_further.Given as goal

abbrev pub invariant-loop-before : goal.invariant-loop-before
invariant-loop-before g l = record {
  transcript : g.W.Sink.transcript l.sink ≡ g.W.Sink.transcript l.initial.sink ++ flat_map (λ before. command_line (more_command l.field l.text before)) (take l.before (range_with_len 0 (further_pieces l.text)));
  quiet : g.W.Sink.failures l.sink ≡ g.W.Sink.failures l.initial.sink;
}
