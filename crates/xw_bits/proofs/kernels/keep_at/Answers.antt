use Rattle.std.proofs.Common.{bit_and}
use Rattle.xw_bits.proofs.Blocks.{kept-below, kept-inside, kept-above}
use Rattle.xw_bits.proofs.kernels.keep_at.Goals as goal

pub returns-clause-below : goal.returns-clause-below
returns-clause-below c = kept-below bit_and c.args.words.now c.args.block c.args.at c.requires c.fits-block.0

pub returns-clause-inside : goal.returns-clause-inside
returns-clause-inside c = kept-inside bit_and c.args.words.now c.args.block c.args.at c.requires c.fits-block.0

pub returns-clause-above : goal.returns-clause-above
returns-clause-above c = kept-above bit_and c.args.words.now c.args.block c.args.at c.requires c.fits-block.0
