use Rattle.std.proofs.Common.{◌++◌, [], ◌∷◌, is_ok, ap, ◌∙◌, arith}
use Rattle.std.proofs.lemmas.Bool.{cond-true}
use Rattle.xw_bits.specs.Bits.{words_have}
use Rattle.xw_bits.proofs.BitLemmas.{words_have-push_none}
use Rattle.xw_bits.proofs.summary.make_room_for_mark.Goals as goal

pub returns-then-len-eq0-clause-bits : goal.returns-then-len-eq0-clause-bits
returns-then-len-eq0-clause-bits c i = ap (λ ws. words_have ws i) (c.push.ensures.items ∙ cond-true (is_ok c.push.result) (c.args.summary.now.items ++ 0 ∷ []) c.args.summary.now.items (c.push.ensures.succeeds (omega arith))) ∙ words_have-push_none c.args.summary.now.items i
