use Rattle.xw_cli_files.proofs.Puts.{kept_first, not_kept_first}
use Rattle.xw_cli_files.proofs.put.keep_first.Goals as goal

pub returns-clause-ok : goal.returns-clause-ok
returns-clause-ok g c = kept_first c.keep_standing.result c.args.file.now c.standing_of-standing.result c.args.desk.now c.standing_of-standing.new.desk c.keep_standing.new.desk c.standing_of-standing.ensures c.keep_standing.ensures.ok

pub returns-clause-err : goal.returns-clause-err
returns-clause-err g c = not_kept_first c.keep_standing.result c.args.file.now c.standing_of-standing.result c.args.desk.now c.standing_of-standing.new.desk c.keep_standing.new.desk c.standing_of-standing.ensures c.keep_standing.ensures.err
