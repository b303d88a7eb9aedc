use Rattle.xw_bits.proofs.BitLemmas.{has_bit-low}
use Rattle.xw_bits.proofs.kernels.low_bits.Goals as goal

pub returns-then-count-lt64 : goal.returns-then-count-lt64
returns-then-count-lt64 c k lt = has_bit-low c.args.word c.args.count k c.if-count-lt64.true
