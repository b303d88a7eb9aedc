use Rattle.std.proofs.Common.{cond, eqb, sym, ap, ◌∙◌}
use Rattle.xw_bits.specs.Bits.{words_have}
use Rattle.xw_bits.proofs.BitLemmas.{words_have-set_bit}
use Rattle.xw_bits.proofs.summary.put_bit.Goals as goal

pub returns-then-bit-clause-bits : goal.returns-then-bit-clause-bits
returns-then-bit-clause-bits c j =
    let words = c.args.words.now in
    words_have-set_bit words c.args.i j c.requires.within ∙ ap (λ b. cond (eqb j c.args.i) b (words_have words j)) (sym c.if-bit.true)
