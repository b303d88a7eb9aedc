use Rattle.std.proofs.Common.{inl, inr}
use Rattle.std.proofs.lemmas.Result.{err_from_is_err_and}
use Rattle.xw_cli.proofs.answer.answer.Goals as goal

pub returns-in_err-before : goal.returns-in_err-before
returns-in_err-before g c =
    let e = err_from_is_err_and c.from_residual.result c.from_residual.ensures.1 in
    rw (e.1, e.2) (inr c.in_err-before.ensures.err)

pub returns : goal.returns
returns g c = inl (record { before = c.in_ok-before.before; resumed = c.resume.new.session; mid = c.resume.new.desk; has_resumed = c.in_ok-before.ensures.ok; is_run = c.converse.ensures })
