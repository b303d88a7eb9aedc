use Rattle.xw_cli.proofs.Steps.{found_ended, found_unended}
use Rattle.xw_cli.proofs.journal.end_journal.Goals as goal

pub returns-clause-ok : goal.returns-clause-ok
returns-clause-ok g c = found_ended c.replace_if.result c.args.file.now c.args.refused c.args.session.now c.args.desk.now c.find_journal.new.desk c.replace_if.new.desk c.in_ok-find_journal.ensures.ok c.replace_if.ensures.ok

pub returns-clause-err : goal.returns-clause-err
returns-clause-err g c = found_unended c.replace_if.result c.args.file.now c.args.session.now c.args.desk.now c.find_journal.new.desk c.replace_if.new.desk c.in_ok-find_journal.ensures.ok c.replace_if.ensures.err
