use Rattle.std.proofs.Common.{inl, inr}
use Rattle.std.proofs.lemmas.Result.{err_from_is_err_and}
use Rattle.xw_cli.proofs.edit_session.edit_session.Goals as goal

pub returns-in_err-keep_files : goal.returns-in_err-keep_files
returns-in_err-keep_files g c =
    let e = err_from_is_err_and c.from_residual.result c.from_residual.ensures.1 in
    rw (e.1, e.2) (inr c.in_err-keep_files.ensures.err)

pub returns : goal.returns
returns g c = inl (record { mid = c.keep_files.new.desk; writable = c.in_ok-keep_files.ensures.ok; opens = c.edit_apart.ensures })
