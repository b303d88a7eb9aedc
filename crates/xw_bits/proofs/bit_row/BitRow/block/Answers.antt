use Rattle.std.proofs.Common.{◌+◌, get_or, sym, ap, ◌∙◌, arith}
use Rattle.xw_bits.specs.Bits.{has_bit}
use Rattle.xw_bits.proofs.BitRowLemmas.{view_len}
use Rattle.xw_bits.proofs.ChunkLemmas.{chunk_bit}
use Rattle.xw_bits.proofs.bit_row.BitRow.block.Goals as goal

pub block_at-requires : goal.block_at-requires
block_at-requires c = omega (arith, c.deref.ensures.len, c.requires, view_len c.self.inside c.self.view_is, c.self.invariant.words_len)

pub returns : goal.returns
returns c chunk k in_block lt =
    ap (λ w. has_bit w k) (c.block_at.ensures chunk in_block ∙ ap (λ ws. get_or ws (c.args.at + chunk) 0) c.deref.ensures.value)
    ∙ sym (chunk_bit c.self.inside c.self.view_is c.self.invariant (c.args.at + chunk) k lt)
