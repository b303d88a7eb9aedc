use Rattle.std.proofs.Common.{◌∙◌}
use Rattle.std.specs.Prelude.{nat_lt}
use Rattle.xw_cli.proofs.Steps.{not_saved_over, saved_over}
use Rattle.xw_cli.proofs.end.write_saved.Goals as goal

pub returns-in-Ok-clause-ok : goal.returns-in-Ok-clause-ok
returns-in-Ok-clause-ok g c = saved_over c.args.named c.in-Some.file (nat_lt 0 c.args.refused.count) c.as_slice-text.result.now c.args.session.now c.args.desk.now c.replace_saved.new.desk c.in-Some.is (c.as_slice-text.ensures.value ∙ c.in_ok-bytes.ensures) c.in-Ok.ensures.ok

pub returns-clause-err : goal.returns-clause-err
returns-clause-err g c = not_saved_over c.args.named c.in-Some.file (nat_lt 0 c.args.refused.count) c.as_slice-text.result.now c.args.session.now c.in-Err.failure c.leave_unsaved.result c.args.desk.now c.replace_saved.new.desk c.leave_unsaved.new.desk
    c.in-Some.is (c.as_slice-text.ensures.value ∙ c.in_ok-bytes.ensures) c.in-Err.ensures.err c.leave_unsaved.ensures
