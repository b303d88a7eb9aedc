use Rattle.std.proofs.Common.{◌∙◌, ◌++◌, ◌∷◌, [], ap, refl, sym}
use Rattle.std.proofs.lemmas.List.Sums.{fold-append}
use Rattle.std.proofs.lemmas.Result.{err_from_is_err_and}
use Rattle.xw_desk.specs.declared.failure.ExitStatus.{ExitStatus}
use Rattle.xw_desk.specs.declared.failure.ExitStatus.TheVariants.{Accepted}
use Rattle.xw_desk.specs.Checked.{greater}
use Rattle.xw_desk.proofs.Checks.{checked_at, ended_at}
use Rattle.xw_desk.proofs.desk.Desk.check_each.Goals as goal

pub loop-file-init : goal.loop-file-init
loop-file-init g c = ([], record { greatest = refl; checked = refl })

pub loop-file-preserved : goal.loop-file-preserved
loop-file-preserved g c =
    let statuses = c.loop-file.invariant.0 in
    let so_far = c.loop-file.invariant.1 in
    let before = ap (λ (s : ExitStatus). greater s c.in_ok-found.found) so_far.greatest in (
      statuses ++ c.in_ok-found.found ∷ [],
      record {
        greatest = c.greater-status.ensures ∙ before ∙ sym (fold-append greater Accepted statuses (c.in_ok-found.found ∷ []));
        checked = checked_at c.args.files.now c.loop-file.file-index _ statuses c.in_ok-found.found _ _ _ c.loop-file-test.true so_far.checked c.in_ok-found.ensures.ok;
      },
    )

pub returns-in_err-found-clause-err : goal.returns-in_err-found-clause-err
returns-in_err-found-clause-err g c =
    let e = err_from_is_err_and c.from_residual.result c.from_residual.ensures.1 in
    rw (e.1, e.2) (ended_at c.args.files.now c.loop-file.file-index _ c.loop-file.invariant.0 _ _ _ _ c.loop-file-test.true c.loop-file.invariant.1.checked c.in_err-found.ensures.err)
