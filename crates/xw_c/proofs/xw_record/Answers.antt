use Rattle.xw_c.specs.OpenSession.{IsRecordMade}
use Rattle.xw_c.proofs.Calling.{calls_open}
use Rattle.xw_c.proofs.xw_record.Goals as goal

pub returns : goal.returns
returns c = calls_open IsRecordMade _ _ c.deref_mut.result.now _ c.record-status.result _ _ c.in-Some.ensures.taken c.deref_mut.ensures.value c.code.ensures c.of.ensures c.record-status.ensures
