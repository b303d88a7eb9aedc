use Rattle.std.proofs.lemmas.Result.{err_from_is_err_and}
use Rattle.xw_feas.proofs.WriteLemmas.{write_refused}
use Rattle.xw_feas.proofs.write.judge_list.Goals as goal

pub returns-in_err-judge_cell-clause-refused : goal.returns-in_err-judge_cell-clause-refused
returns-in_err-judge_cell-clause-refused c =
    let item = c.index-list-index.result in
    let e = err_from_is_err_and c.from_residual.result c.from_residual.ensures.1 in
    rw (e.1, e.2) (write_refused c.args.list.now c.args.grid.now c.loop-index.index _ item c.loop-index-test.true (λ k below. c.loop-index.invariant k item below) c.in_err-judge_cell.ensures.refused)
