use Rattle.std.proofs.lemmas.Simd.{get_or-chunk}
use Rattle.xw_bits.proofs.kernels.block_at.Goals as goal

pub returns : goal.returns
returns c k lt = get_or-chunk c.args.at 8 c.args.words.now k 0 lt
