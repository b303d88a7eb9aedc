use Rattle.std.proofs.Common.{rules}
use Rattle.xw_bits.proofs.ones.Ones.new.Goals as goal

pub returns : goal.returns
returns c = search rules
