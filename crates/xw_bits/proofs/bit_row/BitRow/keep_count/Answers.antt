use Rattle.std.proofs.Common.{rules}
use Rattle.xw_bits.proofs.bit_row.BitRow.keep_count.Goals as goal

pub invariant_of-self : goal.invariant_of-self
invariant_of-self c = search rules
