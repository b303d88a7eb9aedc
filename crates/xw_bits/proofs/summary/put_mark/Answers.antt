use Rattle.xw_bits.proofs.Summaries.{mark_put}
use Rattle.xw_bits.proofs.summary.put_mark.Goals as goal

pub returns-clause-bits : goal.returns-clause-bits
returns-clause-bits c = mark_put c.args.summary.now c.args.chunk c.with_bit.result c.args.bit c.requires c.with_bit.ensures
