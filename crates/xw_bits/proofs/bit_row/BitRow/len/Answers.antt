use Rattle.std.proofs.Common.{length, sym, ap, ◌∙◌}
use Rattle.xw_bits.specs.Bits.{RowOfBits}
use Rattle.xw_bits.proofs.BitLemmas.{length-bits_of}
use Rattle.xw_bits.proofs.bit_row.BitRow.len.Goals as goal

pub returns-clause-value : goal.returns-clause-value
returns-clause-value c = sym (length-bits_of c.self.inside.words.items c.self.inside.len) ∙ ap (λ (r : RowOfBits). length r.bits) c.self.view_is
