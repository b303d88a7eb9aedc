use Rattle.std.proofs.Common.{cond, eqb, sym, ap, ◌∙◌}
use Rattle.xw_bits.specs.Bits.{has_bit}
use Rattle.xw_bits.proofs.BitLemmas.{has_bit-set, has_bit-cleared}
use Rattle.xw_bits.proofs.kernels.with_bit.Goals as goal

pub returns-then-bit : goal.returns-then-bit
returns-then-bit c k lt = has_bit-set c.args.word c.args.i k c.requires ∙ ap (λ b. cond (eqb k c.args.i) b (has_bit c.args.word k)) (sym c.if-bit.true)

pub returns-else-bit : goal.returns-else-bit
returns-else-bit c k lt = has_bit-cleared c.args.word c.args.i k c.requires lt ∙ ap (λ b. cond (eqb k c.args.i) b (has_bit c.args.word k)) (sym c.if-bit.false)
