use Rattle.std.proofs.Common.{bit_or, arith}
use Rattle.std.proofs.lemmas.Simd.{get_or-zip2}
use Rattle.xw_words.proofs.sieve.either_block.Goals as goal

pub returns : goal.returns
returns c k lt = get_or-zip2 bit_or c.args.block c.args.other k 0 0 0 (omega (arith, lt, c.fits-block.0)) (omega (arith, lt, c.fits-other.0))
