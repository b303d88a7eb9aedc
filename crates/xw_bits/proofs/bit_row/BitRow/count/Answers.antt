use Rattle.std.proofs.Common.{count_by, ◌*◌, length, ap, ◌∙◌}
use Rattle.xw_bits.specs.Bits.{bits_of}
use Rattle.xw_bits.proofs.BitRowLemmas.{count_is}
use Rattle.xw_bits.proofs.bit_row.BitRow.count.Goals as goal

pub returns-in-None : goal.returns-in-None
returns-in-None c = c.count_words.ensures ∙ ap (λ ws. count_by (λ b. b) (bits_of ws (64 * length ws))) c.deref.ensures.value ∙ count_is c.self.inside c.self.view_is c.self.invariant
