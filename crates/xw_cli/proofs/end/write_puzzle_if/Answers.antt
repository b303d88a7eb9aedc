use Rattle.xw_session.specs.Opening.{puzzle_of}
use Rattle.xw_cli.proofs.Steps.{not_put_for}
use Rattle.xw_cli.proofs.end.write_puzzle_if.Goals as goal

pub returns-in-Err-clause-err : goal.returns-in-Err-clause-err
returns-in-Err-clause-err g c = not_put_for c.args.named (puzzle_of c.args.session.now) c.in-Some.file c.in-Err.failure c.of_session.result c.is_kept.result c.args.desk.now c.put.new.desk c.in-Some.is c.in-Err.ensures.err c.is_kept.ensures
    c.of_session.ensures
