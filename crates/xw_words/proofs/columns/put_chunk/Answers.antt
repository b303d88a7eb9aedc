use Rattle.std.proofs.Common.{sym, ap, ◌∙◌}
use Rattle.xw_bits.specs.Bits.{has_bit}
use Rattle.xw_bits.proofs.BitLemmas.{has_bit-none}
use Rattle.xw_words.proofs.columns.put_chunk.Goals as goal

pub returns-else-word-ne0-clause-inside : goal.returns-else-word-ne0-clause-inside
returns-else-word-ne0-clause-inside c = λ j lt.
    c.requires.clear j lt ∙ sym (ap (λ word. has_bit word j) c.if-word-ne0.false ∙ has_bit-none j)
