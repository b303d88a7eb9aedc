use Rattle.std.proofs.Common.{[], false}
use Rattle.xw_desk.specs.Desk.{Moment}
use Rattle.xw_desk.proofs.Writing.{fails_to_show, shows}
use Rattle.xw_desk.proofs.desk.Desk.show.Goals as goal

pub returns-clause-ok : goal.returns-clause-ok
returns-clause-ok g c =
    let rest : Moment = record {
      asked = g.D.Disk.log c.self.inside.disk;
      read = g.I.Source.transcript c.self.inside.input;
      is_at_end = g.I.Source.is_at_end c.self.inside.input;
      read_failures = g.I.Source.failures c.self.inside.input;
      told = [];
      write_failures = 0;
      is_closed = false;
      reported = g.E.Sink.transcript c.self.inside.errors;
      report_failures = g.E.Sink.failures c.self.inside.errors;
      is_terminal = c.self.inside.is_terminal;
      is_dialogue = c.self.inside.is_dialogue;
      explains = c.self.inside.explains;
    } in
    rw (← c.self.view_is) (shows g.O.Sink.transcript g.O.Sink.failures g.O.Outlet.is_closed rest c.self.inside.output c.send.new.output c.send.result c.args.text.now c.send.ensures)

pub returns-clause-err : goal.returns-clause-err
returns-clause-err g c =
    let rest : Moment = record {
      asked = g.D.Disk.log c.self.inside.disk;
      read = g.I.Source.transcript c.self.inside.input;
      is_at_end = g.I.Source.is_at_end c.self.inside.input;
      read_failures = g.I.Source.failures c.self.inside.input;
      told = [];
      write_failures = 0;
      is_closed = false;
      reported = g.E.Sink.transcript c.self.inside.errors;
      report_failures = g.E.Sink.failures c.self.inside.errors;
      is_terminal = c.self.inside.is_terminal;
      is_dialogue = c.self.inside.is_dialogue;
      explains = c.self.inside.explains;
    } in
    rw (← c.self.view_is) (fails_to_show g.O.Sink.transcript g.O.Sink.failures g.O.Outlet.is_closed rest c.self.inside.output c.send.new.output c.send.result c.args.text.now c.send.ensures)
