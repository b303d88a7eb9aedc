use Rattle.std.proofs.Common.{false, get_or, length, sym, subst, ap, ◌∙◌, arith}
use Rattle.std.proofs.lemmas.List.{with_items_is}
use Rattle.std.specs.Prelude.{replicate}
use Rattle.xw_bits.specs.Bits.{bits_of, words_have}
use Rattle.xw_bits.specs.Summary.{IsSummary}
use Rattle.xw_bits.proofs.Summaries.{written, zeros_summary}
use Rattle.xw_bits.proofs.BitLemmas.{length-bits_of}
use Rattle.xw_bits.proofs.BitRowLemmas.{view_len}
use Rattle.xw_bits.proofs.RowBlocks.{row_bit, zeros_have}
use Rattle.xw_bits.proofs.bit_row.BitRow.clear.Goals as goal

pub invariant_of-self : goal.invariant_of-self
invariant_of-self c = record {
  small = c.self.invariant.small;
  words_len = c.self.invariant.words_len;
  nothing_past = λ i le.
      ap (λ ws. words_have ws i) (with_items_is c.self.inside.words c.fill.new.self (omega (arith, c.fill.ensures.len, c.as_mut_slice.ensures.len)) ∙ c.fill.ensures.after (λ y clone. clone))
      ∙ zeros_have (length c.as_mut_slice.result.now) i;
  summary_len = c.self.invariant.summary_len;
  summary = written c.self.inside.words c.self.inside.summary c.fill.new.self c.fill-2.new.self (omega (arith, c.fill.ensures.len, c.as_mut_slice.ensures.len)) (omega (arith, c.fill-2.ensures.len, c.as_mut_slice-2.ensures.len))
      (subst (λ ws. IsSummary ws c.fill-2.new.self) (sym (c.fill.ensures.after (λ y clone. clone))) (subst (λ ss. IsSummary (replicate (length c.as_mut_slice.result.now) 0) ss) (sym (c.fill-2.ensures.after (λ y clone. clone)))
      (zeros_summary (length c.as_mut_slice.result.now) (length c.as_mut_slice-2.result.now))));
  within = c.self.invariant.within;
  words_room = c.self.invariant.words_room;
  summary_room = c.self.invariant.summary_room;
  counted = tt;
}

pub returns-clause-len : goal.returns-clause-len
returns-clause-len c = length-bits_of _ _ ∙ view_len c.self.inside c.self.view_is

pub returns-clause-bits : goal.returns-clause-bits
returns-clause-bits c i =
    let r = c.self.inside in
    let many = length c.as_mut_slice.result.now in
    ap (λ ws. get_or (bits_of ws r.len) i false) (with_items_is r.words c.fill.new.self (omega (arith, c.fill.ensures.len, c.as_mut_slice.ensures.len)) ∙ c.fill.ensures.after (λ y clone. clone))
    ∙ row_bit _ r.len i (λ k le. zeros_have many k)
    ∙ zeros_have many i
