use Rattle.std.proofs.lemmas.Result.{err_from_is_err_and}
use Rattle.xw_files.proofs.PuzLemmas.Refused.{across-stopped, down-stopped}
use Rattle.xw_files.proofs.puz.refusal.pass_cell.Goals as goal

pub returns-in_err-number-clause-stopped : goal.returns-in_err-number-clause-stopped
returns-in_err-number-clause-stopped c =
    let e = err_from_is_err_and c.from_residual.result c.from_residual.ensures.1 in
    rw (e.1, e.2) (across-stopped c.args.grid.now c.args.clues.now c.args.cell c.args.number _ c.in_err-number.ensures.stopped)

pub returns-clause-stopped : goal.returns-clause-stopped
returns-clause-stopped c = down-stopped c.args.grid.now c.args.clues.now c.args.cell c.args.number c.in_ok-number.number c.pass_light-2.result c.in_ok-number.ensures.passed c.pass_light-2.ensures.stopped
