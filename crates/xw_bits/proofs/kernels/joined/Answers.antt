use Rattle.std.proofs.Common.{get_or}
use Rattle.xw_bits.proofs.Apart.{none_of_four}
use Rattle.xw_bits.proofs.kernels.joined.Goals as goal

pub returns : goal.returns
returns c none k low high = none_of_four (λ i. get_or c.args.words.now i 0) c.args.at none k low high
