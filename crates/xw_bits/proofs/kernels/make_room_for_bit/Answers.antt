use Rattle.std.proofs.Common.{◌++◌, [], ◌∷◌, is_ok, get_or, ap, ◌∙◌, arith}
use Rattle.std.proofs.lemmas.Bool.{cond-true}
use Rattle.xw_bits.specs.Bits.{words_have}
use Rattle.xw_bits.proofs.BitLemmas.{words_have-push_none, zero_at_end}
use Rattle.xw_bits.proofs.kernels.make_room_for_bit.Goals as goal

pub returns-then-len-eq0-clause-values : goal.returns-then-len-eq0-clause-values
returns-then-len-eq0-clause-values c k = ap (λ ws. get_or ws k 0) (c.push.ensures.items ∙ cond-true (is_ok c.push.result) (c.args.words.now.items ++ 0 ∷ []) c.args.words.now.items (c.push.ensures.succeeds (omega arith))) ∙ zero_at_end c.args.words.now.items k

pub returns-then-len-eq0-clause-bits : goal.returns-then-len-eq0-clause-bits
returns-then-len-eq0-clause-bits c i = ap (λ ws. words_have ws i) (c.push.ensures.items ∙ cond-true (is_ok c.push.result) (c.args.words.now.items ++ 0 ∷ []) c.args.words.now.items (c.push.ensures.succeeds (omega arith))) ∙ words_have-push_none c.args.words.now.items i
