use Rattle.std.proofs.Common.{inl, refl, sym}
use Rattle.std.proofs.lemmas.Result.{err_from_is_err_and}
use Rattle.xw_session.specs.State.{seen}
use Rattle.xw_session.proofs.session.Session.toggle_circle.Goals as goal

pub returns-in_err-cell-clause-done : goal.returns-in_err-cell-clause-done
returns-in_err-cell-clause-done g c =
    let e = err_from_is_err_and c.from_residual.result c.from_residual.ensures.1 in
    rw (e.1, e.2) (inl (c.in_err-cell.ensures.refused (seen c.args.self.now c.args.draft) (sym c.grid_of.ensures)), refl)
