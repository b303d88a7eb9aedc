use Rattle.std.proofs.Common.{rules, subst, ◌++◌}
use Rattle.std.specs.Prelude.{codes, Result, Err}
use Rattle.std.proofs.lemmas.Result.{err_from_is_err_and}
use Rattle.xw_lines.proofs.SendsLemmas.{sends-then, stops-within}
use Rattle.xw_lines.specs.Sends.{Sends}
use Rattle.xw_answers.specs.Record.{command_lines}
use Rattle.xw_answers.proofs.Recording.{stops_as}
use Rattle.xw_journal.specs.Journal.{entered_commands}
use Rattle.xw_journal.proofs.Entered.{group_is}
use Rattle.xw_journal.proofs.journal.write_group.Goals as goal

pub returns-in_err-write_line : goal.returns-in_err-write_line
returns-in_err-write_line g c =
    let e = err_from_is_err_and c.from_residual.result c.from_residual.ensures.1 in
    rw e.1 (λ was before.
    let commands = entered_commands was c.args.grid.now in
    let some = c.has_entered.ensures.some was before (search (rules, c.if-not-has_entered.false)) in
    stops_as g.J.Sink.transcript g.J.Sink.failures _ _ _ _ (group_is commands some)
    (stops-within g.J.Sink.transcript g.J.Sink.failures _ _ (codes "# xw begin\n") (command_lines commands ++ codes "# xw end\n") c.in_err-write_line.ensures))

pub returns-in_err-write_entered : goal.returns-in_err-write_entered
returns-in_err-write_entered g c =
    let e = err_from_is_err_and c.from_residual-in_err-write_entered.result c.from_residual-in_err-write_entered.ensures.1 in
    rw e.1 (λ was before.
    let commands = entered_commands was c.args.grid.now in
    let some = c.has_entered.ensures.some was before (search (rules, c.if-not-has_entered.false)) in
    let fault : Result (Unit {0}) (Unit {0}) = Err tt in
    stops_as g.J.Sink.transcript g.J.Sink.failures _ _ _ _ (group_is commands some)
    (sends-then g.J.Sink.transcript g.J.Sink.failures _ _ _ (codes "# xw begin\n") (command_lines commands ++ codes "# xw end\n") fault c.in_ok-write_line.ensures
    (stops-within g.J.Sink.transcript g.J.Sink.failures _ _ (command_lines commands) (codes "# xw end\n") (c.in_err-write_entered.ensures was before))))

pub returns : goal.returns
returns g c = λ was before.
    let commands = entered_commands was c.args.grid.now in
    let some = c.has_entered.ensures.some was before (search (rules, c.if-not-has_entered.false)) in
    subst (Sends g.J.Sink.transcript g.J.Sink.failures c.args.journal.now c.write_line-2.new.journal c.write_line-2.result) (group_is commands some)
    (sends-then g.J.Sink.transcript g.J.Sink.failures _ _ _ (codes "# xw begin\n") (command_lines commands ++ codes "# xw end\n") _ c.in_ok-write_line.ensures
    (sends-then g.J.Sink.transcript g.J.Sink.failures _ _ _ (command_lines commands) (codes "# xw end\n") _ (c.in_ok-write_entered.ensures was before) c.write_line-2.ensures))
