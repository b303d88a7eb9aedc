use Rattle.std.proofs.lemmas.Result.{err_from_is_err_and}
use Rattle.xw_lines.proofs.SendsLemmas.{sends-then, stops-within}
use Rattle.xw_answers.proofs.fields.write_title_and_author.Goals as goal

pub returns-in_err-write_field : goal.returns-in_err-write_field
returns-in_err-write_field g c =
    let e = err_from_is_err_and c.from_residual.result c.from_residual.ensures.1 in
    rw (e.1, ← c.deref.ensures.value) (stops-within g.W.Sink.transcript g.W.Sink.failures _ _ _ _ c.in_err-write_field.ensures)

pub returns : goal.returns
returns g c = rw (← c.deref.ensures.value, ← c.deref-2.ensures.value) (sends-then g.W.Sink.transcript g.W.Sink.failures _ _ _ _ _ _ c.in_ok-write_field.ensures c.write_field-2.ensures)
