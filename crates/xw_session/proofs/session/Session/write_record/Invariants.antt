use Rattle.std.proofs.Common.{◌≡◌, ◌++◌, take}
use Rattle.std.specs.Prelude.{flat_map}
use Rattle.xw_answers.specs.Record.{command_lines}
use Rattle.xw_session.specs.Record.{section_commands, record_sections}
use Rattle.xw_session.proofs.session.Session.write_record.Given as goal

abbrev pub invariant-loop-section : goal.invariant-loop-section
invariant-loop-section g l = record {
  transcript : g.W.Sink.transcript l.sink ≡ g.W.Sink.transcript l.initial.sink ++ flat_map (λ section. command_lines (section_commands l.self section)) (take l.section-index record_sections);
  quiet : g.W.Sink.failures l.sink ≡ g.W.Sink.failures l.initial.sink;
}
