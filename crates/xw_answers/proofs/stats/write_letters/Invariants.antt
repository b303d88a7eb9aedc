use Rattle.std.proofs.Common.{◌≡◌, ◌+◌, ◌++◌, flat_map, take}
use Rattle.std.specs.List.{range_with_len}
use Rattle.xw_answers.specs.Stats.{letter_line}
use Rattle.xw_answers.proofs.stats.write_letters.Given as goal

abbrev pub invariant-loop-before : goal.invariant-loop-before
invariant-loop-before g l = record {
  transcript : g.W.Sink.transcript l.sink ≡ g.W.Sink.transcript l.initial.sink ++ flat_map (λ before. letter_line l.grid (before + 65)) (take l.before (range_with_len 0 26));
  quiet : g.W.Sink.failures l.sink ≡ g.W.Sink.failures l.initial.sink;
}
