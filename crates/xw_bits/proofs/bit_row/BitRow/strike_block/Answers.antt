use Rattle.std.proofs.Common.{◌+◌, ◌*◌, ◌&&◌, false, get_or, ap, ◌∙◌}
use Rattle.xw_bits.proofs.RowBlocks.{block_not}
use Rattle.xw_bits.proofs.bit_row.BitRow.strike_block.Goals as goal

pub returns-clause-inside : goal.returns-clause-inside
returns-clause-inside c chunk k in_block lt =
    c.keep_block.ensures.inside chunk k in_block lt
    ∙ ap (λ b. get_or c.args.self.now.bits (64 * (c.args.at + chunk) + k) false && b) (block_not c.args.block chunk k c.fits-block.0 c.fits-block.1 in_block lt)
