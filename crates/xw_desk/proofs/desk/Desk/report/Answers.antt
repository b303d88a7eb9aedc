use Rattle.std.proofs.Common.{refl}
use Rattle.xw_desk.proofs.Writing.{goes_out}
use Rattle.xw_desk.proofs.desk.Desk.report.Goals as goal

pub returns : goal.returns
returns g c =
    rw (← c.self.view_is) (record {
      reported = g.E.Sink.transcript c.write_all.new.sink;
      failures = g.E.Sink.failures c.write_all.new.sink;
      goes_out = goes_out g.E.Sink.transcript g.E.Sink.failures c.self.inside.errors c.write_all.new.sink c.write_all.result c.args.text.now c.write_all.ensures;
      alone = refl;
    })
