use Rattle.std.specs.Prelude.{Err}
use Rattle.std.proofs.lemmas.Result.{err_from_is_err_and}
use Rattle.xw_lines.proofs.SendsLemmas.{sends-then, stops-within}
use Rattle.xw_session.proofs.session.besting.BestWriteLines.write_lines.Goals as goal

pub returns-in_err-write_lines-in-Filled : goal.returns-in_err-write_lines-in-Filled
returns-in_err-write_lines-in-Filled g c =
    let e = err_from_is_err_and c.from_residual.result c.from_residual.ensures.1 in
    rw (e.1, c.in-Filled.is) (stops-within g.W.Sink.transcript g.W.Sink.failures _ _ _ _ c.in_err-write_lines-in-Filled.ensures)

pub returns-in_err-write_grade-in-Filled : goal.returns-in_err-write_grade-in-Filled
returns-in_err-write_grade-in-Filled g c =
    let result = c.from_residual-in_err-write_grade-in-Filled in
    let e = err_from_is_err_and result.result result.ensures.1 in
    rw (e.1, c.in-Filled.is) (sends-then g.W.Sink.transcript g.W.Sink.failures {T = Unit {0}} _ _ _ _ _ (Err e.0) c.in_ok-write_lines-in-Filled.ensures
    (stops-within g.W.Sink.transcript g.W.Sink.failures _ _ _ _ c.in_err-write_grade-in-Filled.ensures))

pub returns-in_ok-write_grade-in-Filled : goal.returns-in_ok-write_grade-in-Filled
returns-in_ok-write_grade-in-Filled g c =
    rw c.in-Filled.is (sends-then g.W.Sink.transcript g.W.Sink.failures _ _ _ _ _ _ c.in_ok-write_lines-in-Filled.ensures
    (sends-then g.W.Sink.transcript g.W.Sink.failures _ _ _ _ _ _ c.in_ok-write_grade-in-Filled.ensures c.write_grade-in-Filled.ensures))

pub returns-in_err-write_lines-in-Limit : goal.returns-in_err-write_lines-in-Limit
returns-in_err-write_lines-in-Limit g c =
    let result = c.from_residual-in_err-write_lines-in-Limit in
    let e = err_from_is_err_and result.result result.ensures.1 in
    rw (e.1, c.in-Limit.is) (stops-within g.W.Sink.transcript g.W.Sink.failures _ _ _ _ c.in_err-write_lines-in-Limit.ensures)

pub returns-in_ok-write_lines-in-Limit : goal.returns-in_ok-write_lines-in-Limit
returns-in_ok-write_lines-in-Limit g c =
    rw c.in-Limit.is (sends-then g.W.Sink.transcript g.W.Sink.failures _ _ _ _ _ _ c.in_ok-write_lines-in-Limit.ensures c.write_grade-in-Limit.ensures)
