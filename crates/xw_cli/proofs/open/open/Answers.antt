use Rattle.xw_cli.proofs.Runs.{opened_empty, opened_with, unopened_empty, unopened_with}
use Rattle.xw_cli.proofs.open.open.Goals as goal

pub returns-in-Some-clause-ok : goal.returns-in-Some-clause-ok
returns-in-Some-clause-ok g c = opened_with c.open_puzzle.result c.args.named c.in_ok-bank.bank.words c.in-Some.file c.args.desk.now c.dictionary.new.desk c.open_puzzle.new.desk c.in_ok-bank.ensures.ok c.in-Some.is c.open_puzzle.ensures.ok

pub returns-in-Some-clause-err : goal.returns-in-Some-clause-err
returns-in-Some-clause-err g c = unopened_with c.open_puzzle.result c.args.named c.in_ok-bank.bank.words c.in-Some.file c.args.desk.now c.dictionary.new.desk c.open_puzzle.new.desk c.in_ok-bank.ensures.ok c.in-Some.is c.open_puzzle.ensures.err

pub returns-in-None-clause-ok : goal.returns-in-None-clause-ok
returns-in-None-clause-ok g c = opened_empty c.open_empty.result c.args.named c.in_ok-bank.bank.words c.args.desk.now c.dictionary.new.desk c.in_ok-bank.ensures.ok c.in-None.is c.open_empty.ensures.ok

pub returns-in-None-clause-err : goal.returns-in-None-clause-err
returns-in-None-clause-err g c = unopened_empty c.open_empty.result c.args.named c.in_ok-bank.bank.words c.args.desk.now c.dictionary.new.desk c.in_ok-bank.ensures.ok c.in-None.is c.open_empty.ensures.memory
