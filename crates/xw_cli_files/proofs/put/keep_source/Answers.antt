use Rattle.xw_cli_files.specs.Put.{KeepsLost}
use Rattle.xw_cli_files.proofs.Puts.{lost_unkept, read_kept}
use Rattle.xw_cli_files.proofs.put.keep_source.Goals as goal

pub returns-clause-ok : goal.returns-clause-ok
returns-clause-ok g c = read_kept c.keep_lost.result KeepsLost c.args.file.now c.as_slice.result.now c.in_ok-bytes.bytes.items c.args.desk.now c.read_target.new.desk c.keep_lost.new.desk
    c.as_slice.ensures.value c.in_ok-bytes.ensures.ok c.keep_lost.ensures.ok

pub returns-clause-err : goal.returns-clause-err
returns-clause-err g c = lost_unkept c.keep_lost.result c.args.file.now c.as_slice.result.now c.in_ok-bytes.bytes.items c.args.desk.now c.read_target.new.desk c.keep_lost.new.desk
    c.as_slice.ensures.value c.in_ok-bytes.ensures.ok c.keep_lost.ensures.err
