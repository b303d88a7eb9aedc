use Rattle.xw_c.specs.OpenSession.{IsResumed}
use Rattle.xw_c.proofs.Calling.{calls_open}
use Rattle.xw_c.proofs.xw_resume.Goals as goal

pub returns : goal.returns
returns c = calls_open (IsResumed c.args.record.now) _ _ c.deref_mut.result.now _ c.resume-status.result _ _ c.in-Some.ensures.taken c.deref_mut.ensures.value c.code.ensures c.of.ensures c.resume-status.ensures
