use Rattle.xw_files.proofs.TextLemmas.Numbers.{number_more}
use Rattle.xw_files.proofs.text.reading.number.Goals as goal

pub loop-digit-preserved : goal.loop-digit-preserved
loop-digit-preserved c = rw c.from.ensures (number_more _ _ _ c.loop-digit-test.true c.requires c.loop-digit.invariant.0 c.loop-digit.invariant.1)
