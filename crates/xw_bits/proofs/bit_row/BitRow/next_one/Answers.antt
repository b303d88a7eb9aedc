use Rattle.std.proofs.Common.{rules}
use Rattle.xw_bits.proofs.bit_row.BitRow.next_one.Goals as goal

pub returns-clause-set : goal.returns-clause-set
returns-clause-set c = search rules
