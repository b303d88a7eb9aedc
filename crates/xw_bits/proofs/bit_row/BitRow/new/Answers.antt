use Rattle.std.proofs.Common.{List, ℕ, [], refl, sym, subst, ap, ◌∙◌, arith}
use Rattle.xw_bits.specs.Bits.{words_have, bits_of}
use Rattle.xw_bits.specs.Summary.{IsSummary}
use Rattle.xw_bits.proofs.BitLemmas.{words_have-none}
use Rattle.xw_bits.proofs.Summaries.{empty_summary}
use Rattle.xw_bits.proofs.bit_row.BitRow.new.Goals as goal

pub invariant_of-result : goal.invariant_of-result
unfolding bits_of
invariant_of-result c = record {
  small = omega arith;
  words_len = c.new.ensures.len;
  nothing_past = λ i le. ap (λ (ws : List ℕ). words_have ws i) c.new.ensures.items ∙ words_have-none i;
  summary_len = c.new-2.ensures.len;
  summary = subst (λ ws. IsSummary ws c.new-2.result.items) (sym c.new.ensures.items) (subst (λ ss. IsSummary [] ss) (sym c.new-2.ensures.items) empty_summary);
  within = omega (arith, c.new.ensures.len);
  words_room = omega arith;
  summary_room = omega arith;
  counted = refl;
}

pub returns : goal.returns
unfolding bits_of
returns c = refl
