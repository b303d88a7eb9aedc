use Rattle.std.proofs.Common.{◌∙◌, arith}
use Rattle.xw_cli.proofs.Steps.{ended, unended}
use Rattle.xw_cli.proofs.journal.replace_if.Goals as goal

pub returns-clause-ok : goal.returns-clause-ok
returns-clause-ok g c = ended c.replace_journal.result c.args.file.now c.as_slice.result.now c.args.session.now c.args.refused c.args.desk.now c.replace_journal.new.desk (c.as_slice.ensures.value ∙ c.in_ok-bytes.ensures) (omega arith) c.replace_journal.ensures.ok

pub returns-clause-err : goal.returns-clause-err
returns-clause-err g c = unended c.replace_journal.result c.args.file.now c.as_slice.result.now c.args.session.now c.args.desk.now c.replace_journal.new.desk (c.as_slice.ensures.value ∙ c.in_ok-bytes.ensures) c.replace_journal.ensures.err
