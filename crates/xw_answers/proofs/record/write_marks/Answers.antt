use Rattle.std.proofs.lemmas.Result.{err_from_is_err_and}
use Rattle.xw_lines.proofs.SendsLemmas.{sends-then, stops-within}
use Rattle.xw_answers.proofs.Recording.{lines_of_both, sends_as, stops_as}
use Rattle.xw_answers.proofs.record.write_marks.Goals as goal

pub returns-in_err-write_regraded : goal.returns-in_err-write_regraded
returns-in_err-write_regraded g c =
    let e = err_from_is_err_and c.from_residual.result c.from_residual.ensures.1 in
    rw e.1 (stops_as g.W.Sink.transcript g.W.Sink.failures _ _ _ _ (lines_of_both _ _) (stops-within g.W.Sink.transcript g.W.Sink.failures _ _ _ _ c.in_err-write_regraded.ensures))

pub returns : goal.returns
returns g c = sends_as g.W.Sink.transcript g.W.Sink.failures _ _ _ _ _ (lines_of_both _ _) (sends-then g.W.Sink.transcript g.W.Sink.failures _ _ _ _ _ _ c.in_ok-write_regraded.ensures c.write_struck.ensures)
