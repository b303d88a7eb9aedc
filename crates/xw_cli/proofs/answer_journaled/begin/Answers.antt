use Rattle.std.proofs.Common.{refl}
use Rattle.std.proofs.lemmas.Result.{err_from_is_err_and}
use Rattle.xw_cli.proofs.Steps.{begun_in_vain}
use Rattle.xw_cli.proofs.answer_journaled.begin.Goals as goal

pub returns-in_err-journaled-clause-err : goal.returns-in_err-journaled-clause-err
returns-in_err-journaled-clause-err g c =
    let e = err_from_is_err_and c.from_residual-in_err-journaled.result c.from_residual-in_err-journaled.ensures.1 in
    rw (e.1, e.2) (begun_in_vain c.args.file.now c.args.is_synced c.args.session c.in_ok-journal.before c.resume_journal.new.session _ c.args.desk.now c.resume_journal.new.desk c.in_ok-journal.ensures.ok refl)
