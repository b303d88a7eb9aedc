use Rattle.std.proofs.Common.{[], false}
use Rattle.xw_lines.proofs.Broken.{run-read}
use Rattle.xw_desk.specs.Desk.{Moment}
use Rattle.xw_cli.proofs.Runs.{answers_input, has_before}
use Rattle.xw_cli.proofs.input.answer_input.Goals as goal

pub returns-in-Ok-file_before-clause-input : goal.returns-in-Ok-file_before-clause-input
returns-in-Ok-file_before-clause-input g c =
    let rest : Moment = record {
      asked = g.D.Disk.log c.desk.inside.disk;
      read = [];
      is_at_end = false;
      read_failures = 0;
      told = [];
      write_failures = 0;
      is_closed = false;
      reported = g.E.Sink.transcript c.desk.inside.errors;
      report_failures = g.E.Sink.failures c.desk.inside.errors;
      is_terminal = c.desk.inside.is_terminal;
      is_dialogue = c.desk.inside.is_dialogue;
      explains = c.desk.inside.explains;
    } in
    let read = c.in-Ok.ensures.ok in
    let finished = c.answer_rest.ensures c.args.handler.now (g.O.Sink.transcript c.desk.inside.output) read.text read.goes_on in
    rw (← c.desk.view_is)
    (answers_input g.H.LineHandler.answers g.H.LineHandler.stops g.I.Source.transcript g.I.Source.is_at_end g.I.Source.failures g.O.Sink.transcript g.O.Sink.failures g.O.Outlet.is_closed c.answer_rest.result c.args.handler.now c.answer_rest.new.handler rest
    c.desk.inside.input c.answer_ended.new.source c.desk.inside.output c.answer_rest.new.sink
    (run-read g.H.LineHandler.answers g.H.LineHandler.stops g.I.Source.transcript g.I.Source.is_at_end g.I.Source.failures g.O.Sink.transcript g.O.Sink.failures c.answer_rest.result c.in-Ok.rest.piece c.in-Ok.rest.refused c.args.handler.now
    c.answer_ended.new.handler c.answer_rest.new.handler c.desk.inside.input c.answer_ended.new.source c.desk.inside.output c.answer_ended.new.sink c.answer_rest.new.sink read finished))

pub returns-in-Ok-file_before-clause-before : goal.returns-in-Ok-file_before-clause-before
returns-in-Ok-file_before-clause-before g c =
    let rest : Moment = record {
      asked = g.D.Disk.log c.desk.inside.disk;
      read = [];
      is_at_end = false;
      read_failures = 0;
      told = [];
      write_failures = 0;
      is_closed = false;
      reported = g.E.Sink.transcript c.desk.inside.errors;
      report_failures = g.E.Sink.failures c.desk.inside.errors;
      is_terminal = c.desk.inside.is_terminal;
      is_dialogue = c.desk.inside.is_dialogue;
      explains = c.desk.inside.explains;
    } in
    rw (← c.desk.view_is)
    (has_before g.H.LineHandler.answers g.H.Saved.state g.I.Source.transcript g.I.Source.is_at_end g.I.Source.failures g.O.Sink.transcript g.O.Sink.failures g.O.Outlet.is_closed (λ bytes. bytes.items) c.in-Ok-file_before.before c.answer_rest.result
    c.in-Ok.rest.piece c.in-Ok.rest.refused c.args.handler.now c.answer_ended.new.handler rest c.desk.inside.input c.answer_ended.new.source c.desk.inside.output c.answer_ended.new.sink c.answer_rest.new.sink c.in-Ok.ensures.ok c.in-Ok-file_before.ensures.ok)
