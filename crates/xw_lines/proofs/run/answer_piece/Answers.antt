use Rattle.std.proofs.lemmas.Result.{err_from_is_err_and}
use Rattle.xw_lines.proofs.Turns.{answered-along, broke-after}
use Rattle.xw_lines.proofs.run.answer_piece.Goals as goal

pub returns-in_err-pass_on-clause-err : goal.returns-in_err-pass_on-clause-err
returns-in_err-pass_on-clause-err g c =
    let e = err_from_is_err_and c.from_residual-in_err-pass_on.result c.from_residual-in_err-pass_on.ensures.1 in
    rw e.1 (rw e.2 (broke-after g.S.LineHandler.answers _ _ _ _ _ _ _ _ c.line.ensures c.in_err-pass_on.ensures.unmoved c.in_ok-outcome.ensures.ok))

pub returns-clause-ok : goal.returns-clause-ok
returns-clause-ok g c = (
  c.in_ok-outcome.outcome,
  _,
  answered-along g.S.LineHandler.answers _ _ _ _ _ _ _ c.line.ensures c.in_ok-outcome.ensures.ok,
  c.in_ok-pass_on.ensures.transcript,
  c.with_outcome.ensures,
)
