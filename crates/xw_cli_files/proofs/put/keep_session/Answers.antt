use Rattle.xw_desk.specs.Names.{is_session}
use Rattle.xw_cli_files.specs.Put.{KeepsIf}
use Rattle.xw_cli_files.proofs.Puts.{session_unkept, read_kept}
use Rattle.xw_cli_files.proofs.put.keep_session.Goals as goal

pub returns-clause-ok : goal.returns-clause-ok
returns-clause-ok g c = read_kept c.keep_if.result (λ name bytes. KeepsIf (is_session bytes) name bytes) c.args.file.now c.as_slice.result.now c.in_ok-bytes.bytes.items c.args.desk.now c.read_target.new.desk c.keep_if.new.desk
    c.as_slice.ensures.value c.in_ok-bytes.ensures.ok c.keep_if.ensures.ok

pub returns-clause-err : goal.returns-clause-err
returns-clause-err g c = session_unkept c.keep_if.result c.args.file.now c.as_slice.result.now c.in_ok-bytes.bytes.items c.args.desk.now c.read_target.new.desk c.keep_if.new.desk
    c.as_slice.ensures.value c.in_ok-bytes.ensures.ok c.keep_if.ensures.err
