use Rattle.std.proofs.Common.{◌+◌, sym, arith}
use Rattle.xw_bits.proofs.Counts.{ones_few, ones_more, ones_none, ones_blocks}
use Rattle.xw_bits.proofs.kernels.count_span.Goals as goal

pub returns-then-is_clear_block : goal.returns-then-is_clear_block
returns-then-is_clear_block c = sym (ones_none c.args.words.now c.args.at 8 c.requires.within (c.is_clear_block.ensures c.if-is_clear_block.true))

pub overflow_add-result : goal.overflow_add-result
overflow_add-result c =
    let xs = c.args.words.now in
    let at = c.args.at in
    record { fits = omega (arith, ones_few xs (at + 8) c.type_inv.words, ones_more xs at 8, ones_blocks xs at, c.count_block.ensures, c.count_block-2.ensures, c.requires) }

pub returns : goal.returns
returns c = omega (arith, ones_blocks c.args.words.now c.args.at, c.count_block.ensures, c.count_block-2.ensures)
