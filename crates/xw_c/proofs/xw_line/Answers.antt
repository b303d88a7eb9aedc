use Rattle.xw_c.specs.OpenSession.{IsLineDone}
use Rattle.xw_c.proofs.Calling.{calls_open}
use Rattle.xw_c.proofs.xw_line.Goals as goal

pub returns : goal.returns
returns c = calls_open (IsLineDone c.args.line.now) _ _ c.deref_mut.result.now _ c.line-status.result _ _ c.in-Some.ensures.taken c.deref_mut.ensures.value c.code.ensures c.of.ensures c.line-status.ensures
