use Rattle.std.proofs.Common.{◌≡◌, ◌++◌, ◌≤◌, ◌-◌, take, drop}
use Rattle.std.specs.Prelude.{flat_map}
use Rattle.xw_words.specs.Dictionary.{known_words}
use Rattle.xw_answers.specs.Spelling.{command_line}
use Rattle.xw_answers.specs.Record.{add_command}
use Rattle.xw_answers.proofs.record.write_added.Given as goal

abbrev pub invariant-loop-index : goal.invariant-loop-index
invariant-loop-index g l = record {
  from : l.begun ≤ l.index;
  transcript : g.W.Sink.transcript l.sink ≡ g.W.Sink.transcript l.initial.sink ++ flat_map (λ entry. command_line (add_command entry)) (take (l.index - l.begun) (drop l.begun (known_words l.bank.words l.count)));
  quiet : g.W.Sink.failures l.sink ≡ g.W.Sink.failures l.initial.sink;
}
