use Rattle.xw_files.specs.declared.kind.Kind.TheVariants.{Puz}
use Rattle.xw_c.specs.OpenSession.{IsFileMade}
use Rattle.xw_c.proofs.Calling.{calls_open}
use Rattle.xw_c.proofs.xw_puz.Goals as goal

pub returns : goal.returns
returns c = calls_open (IsFileMade Puz) _ _ c.deref_mut.result.now _ c.puz-status.result _ _ c.in-Some.ensures.taken c.deref_mut.ensures.value c.code.ensures c.of.ensures c.puz-status.ensures
