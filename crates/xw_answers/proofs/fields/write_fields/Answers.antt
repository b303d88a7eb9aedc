use Rattle.std.proofs.lemmas.Result.{err_from_is_err_and}
use Rattle.xw_lines.proofs.SendsLemmas.{sends-then, stops-within}
use Rattle.xw_answers.proofs.fields.write_fields.Goals as goal

pub returns-in_err-write_title_and_author : goal.returns-in_err-write_title_and_author
returns-in_err-write_title_and_author g c =
    let e = err_from_is_err_and c.from_residual.result c.from_residual.ensures.1 in
    rw e.1 (stops-within g.W.Sink.transcript g.W.Sink.failures _ _ _ _ c.in_err-write_title_and_author.ensures)

pub returns : goal.returns
returns g c = sends-then g.W.Sink.transcript g.W.Sink.failures _ _ _ _ _ _ c.in_ok-write_title_and_author.ensures c.write_copyright_and_notes.ensures
