use Rattle.std.proofs.lemmas.Result.{err_from_is_err_and}
use Rattle.xw_cli_files.proofs.Steps.{kept_in_vain, not_kept_over, over}
use Rattle.xw_cli_files.proofs.saved.replace_saved.Goals as goal

pub returns-clause-ok : goal.returns-clause-ok
returns-clause-ok g c = over c.write_file.result c.args.file.now c.standing_of-standing.result c.args.is_loss c.args.bytes.now c.args.desk.now c.standing_of-standing.new.desk c.keep_as.new.desk c.write_file.new.self
    c.standing_of-standing.ensures c.in_ok-keep_as.ensures.ok c.write_file.ensures.ok

pub returns-clause-err : goal.returns-clause-err
returns-clause-err g c = kept_in_vain c.write_file.result c.args.named c.args.file.now c.standing_of-standing.result c.args.is_loss c.args.bytes.now c.args.desk.now c.standing_of-standing.new.desk c.keep_as.new.desk c.write_file.new.self
    c.standing_of-standing.ensures c.in_ok-keep_as.ensures.ok c.write_file.ensures.err

pub returns-in_err-keep_as-clause-err : goal.returns-in_err-keep_as-clause-err
returns-in_err-keep_as-clause-err g c =
    let e = err_from_is_err_and c.from_residual-in_err-keep_as.result c.from_residual-in_err-keep_as.ensures.1 in
    rw (e.1, e.2) (not_kept_over c.args.named c.args.file.now c.standing_of-standing.result c.args.is_loss c.args.bytes.now c.in_err-keep_as.field-0.0 c.args.desk.now c.standing_of-standing.new.desk c.keep_as.new.desk
    c.standing_of-standing.ensures c.in_err-keep_as.ensures.err)
