use Rattle.std.proofs.lemmas.Result.{err_from_is_err_and}
use Rattle.xw_files.proofs.TextLemmas.Shapes.{rows_go_on, rows_fail, rows_done}
use Rattle.xw_files.proofs.text.reading.rows.Goals as goal

pub loop-above-preserved : goal.loop-above-preserved
loop-above-preserved c = rows_go_on _ _ _ _ _ _ _ _ c.loop-above-test.true c.in_ok-row.ensures c.loop-above.invariant

pub returns : goal.returns
returns c = rows_done _ _ _ _ _ _ c.loop-above-test.false c.loop-above.invariant

pub returns-in_err-row : goal.returns-in_err-row
returns-in_err-row c = let p = err_from_is_err_and c.from_residual.result c.from_residual.ensures.1 in rw (p.1, p.2) (λ other. rows_fail _ _ _ _ _ _ _ c.loop-above-test.true (c.in_err-row.ensures other) c.loop-above.invariant)
