use Rattle.std.proofs.lemmas.Result.{err_from_is_err_and}
use Rattle.xw_lines.proofs.SendsLemmas.{sends-then, stops-within}
use Rattle.xw_journal.proofs.journal.write_line.Goals as goal

pub returns-in_err-write_all : goal.returns-in_err-write_all
returns-in_err-write_all g c =
    let e = err_from_is_err_and c.from_residual.result c.from_residual.ensures.1 in
    rw e.1 (stops-within g.J.Sink.transcript g.J.Sink.failures _ _ _ _ c.in_err-write_all.ensures)

pub returns : goal.returns
returns g c = sends-then g.J.Sink.transcript g.J.Sink.failures _ _ _ _ _ _ c.in_ok-write_all.ensures c.write_all-2.ensures
