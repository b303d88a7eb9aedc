use Rattle.std.proofs.lemmas.Result.{err_from_is_err_and}
use Rattle.xw_lines.proofs.SendsLemmas.{sends-then, stops-within}
use Rattle.xw_session.proofs.session.Session.write_texts.Goals as goal

pub returns-in_err-write_fields : goal.returns-in_err-write_fields
returns-in_err-write_fields g c =
    let e = err_from_is_err_and c.from_residual.result c.from_residual.ensures.1 in
    rw (e.1, ← c.self.view_is) (stops-within g.W.Sink.transcript g.W.Sink.failures _ _ _ _ c.in_err-write_fields.ensures)

pub returns : goal.returns
returns g c = rw (← c.self.view_is, ← c.grid.ensures) (sends-then g.W.Sink.transcript g.W.Sink.failures _ _ _ _ _ _ c.in_ok-write_fields.ensures c.write_clues.ensures)
