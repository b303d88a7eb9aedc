use Rattle.std.proofs.Common.{◌≡◌, ℕ, false, List, suc, zero, count_by, refl, sym, subst, ap, ◌∙◌, arith}
use Rattle.std.specs.Prelude.{replicate}
use Rattle.std.proofs.lemmas.List.{get_or-replicate, length-replicate}
use Rattle.xw_bits.specs.Bits.{words_have, bits_of}
use Rattle.xw_bits.specs.Summary.{IsSummary}
use Rattle.xw_bits.proofs.BitLemmas.{bits_of_is}
use Rattle.xw_bits.proofs.RowBlocks.{zeros_have}
use Rattle.xw_bits.proofs.Summaries.{zeros_summary}
use Rattle.xw_bits.proofs.bit_row.BitRow.clear_of.Goals as goal

-- the bits of zeros are clear
clear_bits : (many len : ℕ) → bits_of (replicate many 0) len ≡ replicate len false
clear_bits many len = bits_of_is (replicate many 0) len (replicate len false) (length-replicate len false) (λ i below. zeros_have many i ∙ sym (get_or-replicate len i false false below))

-- none of them is set
none_set : (len : ℕ) → 0 ≡ count_by (λ b. b) (replicate len false)
none_set zero = refl
none_set (suc len) = none_set len

pub invariant_of-result : goal.invariant_of-result
invariant_of-result c =
    let words = c.in_ok-vec.field-0 in
    let summary = c.in_ok-vec-2.field-0 in
    let words_are = c.in_ok-vec.ensures.items_if_clones_equal (λ y clone. clone) in
    let summary_is = c.in_ok-vec-2.ensures.items_if_clones_equal (λ y clone. clone) in
    record {
      small = c.requires;
      words_len = omega (arith, c.in_ok-vec.ensures.len, c.div_ceil-words.ensures);
      nothing_past = λ i le. ap (λ (ws : List ℕ). words_have ws i) words_are ∙ zeros_have c.div_ceil-words.result i;
      summary_len = omega (arith, c.in_ok-vec-2.ensures.len, c.div_ceil.ensures, c.div_ceil-words.ensures);
      summary = subst (λ ws. IsSummary ws summary.items) (sym words_are) (subst (λ ss. IsSummary (replicate c.div_ceil-words.result 0) ss) (sym summary_is) (zeros_summary c.div_ceil-words.result c.div_ceil.result));
      within = omega (arith, c.in_ok-vec.ensures.len);
      words_room = omega (arith, c.in_ok-vec.ensures.len, words.ok.0);
      summary_room = omega (arith, c.in_ok-vec-2.ensures.len, c.div_ceil.ensures, summary.ok.0);
      counted = none_set c.args.bits ∙ ap (count_by (λ b. b)) (sym (ap (λ ws. bits_of ws c.args.bits) words_are ∙ clear_bits c.div_ceil-words.result c.args.bits));
    }

pub returns-clause-bits : goal.returns-clause-bits
returns-clause-bits c =
    ap (λ ws. bits_of ws c.args.bits) (c.in_ok-vec.ensures.items_if_clones_equal (λ y clone. clone)) ∙ clear_bits c.div_ceil-words.result c.args.bits
