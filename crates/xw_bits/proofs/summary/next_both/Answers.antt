use Rattle.std.proofs.Common.{◌/◌, ◌&&◌, length, get_or, bit_and, inl, inr, arith}
use Rattle.std.proofs.lemmas.Bool.{cases_lt}
use Rattle.std.proofs.lemmas.Nat.{and_le_l}
use Rattle.xw_bits.specs.Bits.{words_have}
use Rattle.xw_bits.proofs.SetBitLemmas.{rest_clear, lowest_here, below_lowest}
use Rattle.xw_bits.proofs.Summaries.{common_marks, both_set, past_words, either_clear, other_clear}
use Rattle.xw_bits.proofs.summary.next_both.Goals as goal

pub returns-then-both-ne0-clause-found : goal.returns-then-both-ne0-clause-found
returns-then-both-ne0-clause-found c =
    let s = c.args.summary.now in
    let o = c.args.other.now in
    let at = c.loop-at.at in
    let first = get_or s (at / 64) 0 in
    let second = get_or o (at / 64) 0 in
    let low = (lowest_here (λ k. words_have s k && words_have o k) at (bit_and first second) (common_marks s o at) (omega (arith, and_le_l first second, (c.type_inv.summary (at / 64)).fits)) (omega arith)).1 in
    let both = both_set _ _ low in
    (omega arith, both.0, both.1)

pub returns-then-both-ne0-clause-passed : goal.returns-then-both-ne0-clause-passed
returns-then-both-ne0-clause-passed c k low high =
    let s = c.args.summary.now in
    let o = c.args.other.now in
    let at = c.loop-at.at in
    let first = get_or s (at / 64) 0 in
    let second = get_or o (at / 64) 0 in
    elim (cases_lt k c.loop-at.at) [
      | inl before ↦ c.loop-at.invariant.clear k low before
      | inr here ↦ below_lowest (λ k. words_have s k && words_have o k) at (bit_and first second) (common_marks s o at) (omega (arith, and_le_l first second, (c.type_inv.summary (at / 64)).fits)) (omega arith) k here high
    ]

pub loop-at-preserved : goal.loop-at-preserved
loop-at-preserved c =
    let s = c.args.summary.now in
    let o = c.args.other.now in
    let at = c.loop-at.at in
    let first = get_or s (at / 64) 0 in
    let second = get_or o (at / 64) 0 in
    record {
      on = omega arith;
      clear = λ k low high. elim (cases_lt k c.loop-at.at) [
        | inl before ↦ c.loop-at.invariant.clear k low before
        | inr here ↦ rest_clear (λ k. words_have s k && words_have o k) at (bit_and first second) (common_marks s o at) (omega (arith, and_le_l first second, (c.type_inv.summary (at / 64)).fits)) c.if-both-ne0.false k here high
      ];
    }

pub returns-clause-none : goal.returns-clause-none
returns-clause-none c k low =
    let s = c.args.summary.now in
    let o = c.args.other.now in
    elim (cases_lt k c.loop-at.at) [
      | inl before ↦ c.loop-at.invariant.clear k low before
      | inr past ↦ elim (cases_lt (k / 64) (length s)) [
        | inr past_first ↦ either_clear (words_have s k) (words_have o k) (past_words s k past_first)
        | inl within ↦ other_clear (words_have s k) (words_have o k) (past_words o k (omega (arith, past, within)))
      ]
    ]
