use Rattle.std.proofs.Common.{◌≡◌, ◌++◌, take}
use Rattle.xw_session.specs.Help.{form_lines}
use Rattle.xw_session.proofs.session.helping.write_forms.Given as goal

abbrev pub invariant-loop-name : goal.invariant-loop-name
invariant-loop-name g l = record {
  transcript : g.W.Sink.transcript l.sink ≡ g.W.Sink.transcript l.initial.sink ++ form_lines g.N.CommandName.form (take l.name-index l.names);
  quiet : g.W.Sink.failures l.sink ≡ g.W.Sink.failures l.initial.sink;
}
