use Rattle.std.proofs.Common.{arith}
use Rattle.xw_bits.proofs.BitRowLemmas.{view_len, chunk_within}
use Rattle.xw_bits.proofs.bit_row.BitRow.is_dense.Goals as goal

pub overflow_sub-len : goal.overflow_sub-len
overflow_sub-len c = omega (arith, c.len.ensures, chunk_within c.self.inside c.self.view_is c.self.invariant c.args.chunk c.requires)

pub returns-then-len-chunk-ge8 : goal.returns-then-len-chunk-ge8
returns-then-len-chunk-ge8 c _ = omega (arith, c.len.ensures, c.if-len-chunk-ge8.true, c.self.invariant.words_len, view_len c.self.inside c.self.view_is, chunk_within c.self.inside c.self.view_is c.self.invariant c.args.chunk c.requires)
