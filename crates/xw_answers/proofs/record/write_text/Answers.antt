use Rattle.std.proofs.lemmas.Result.{err_from_is_err_and}
use Rattle.xw_lines.proofs.SendsLemmas.{sends-then, stops-within}
use Rattle.xw_answers.proofs.record.write_text.Goals as goal

pub returns-in_err-write_put : goal.returns-in_err-write_put
returns-in_err-write_put g c =
    let e = err_from_is_err_and c.from_residual.result c.from_residual.ensures.1 in
    rw (e.1, ← c.piece.ensures) (stops-within g.W.Sink.transcript g.W.Sink.failures _ _ _ _ c.in_err-write_put.ensures)

pub returns : goal.returns
returns g c = rw (← c.piece.ensures) (sends-then g.W.Sink.transcript g.W.Sink.failures _ _ _ _ _ _ c.in_ok-write_put.ensures c.write_further.ensures)
