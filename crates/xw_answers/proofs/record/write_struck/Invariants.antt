use Rattle.std.proofs.Common.{◌≡◌, ◌++◌, take}
use Rattle.std.specs.Prelude.{flat_map}
use Rattle.xw_words.specs.Dictionary.{known_words}
use Rattle.xw_answers.specs.Record.{command_lines, strike_commands}
use Rattle.xw_answers.proofs.record.write_struck.Given as goal

abbrev pub invariant-loop-index : goal.invariant-loop-index
invariant-loop-index g l = record {
  transcript : g.W.Sink.transcript l.sink ≡ g.W.Sink.transcript l.initial.sink ++ flat_map (λ entry. command_lines (strike_commands entry)) (take l.index (known_words l.bank.words l.count));
  quiet : g.W.Sink.failures l.sink ≡ g.W.Sink.failures l.initial.sink;
}
