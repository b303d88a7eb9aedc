use Rattle.std.proofs.Common.{◌+◌, ◌-◌, ◌<◌, ◌^◌, length, get_or, set, sym, ap, ◌∙◌, inl, inr, w64, arith}
use Rattle.std.specs.Int.{trailing_zeros}
use Rattle.std.proofs.lemmas.Bool.{cases_eq}
use Rattle.std.proofs.lemmas.List.{get_or-set_same, get_or-set_other}
use Rattle.xw_bits.specs.Bits.{has_bit}
use Rattle.xw_bits.proofs.BitLemmas.{has_bit-none, has_bit-and}
use Rattle.xw_bits.proofs.Summaries.{both_set}
use Rattle.xw_bits.proofs.Marks.{lowest_marked, lowest_small, others_left}
use Rattle.xw_bits.proofs.kernels.copy_part.Goals as goal

pub bounds-other-at : goal.bounds-other-at
bounds-other-at c =
    let left = c.loop-left.left in
    let some : 0 < c.loop-left.left = omega arith in
    let fits : c.loop-left.left < 2 ^ 64 = omega arith in
    omega (arith, c.requires.same, c.requires.marked (trailing_zeros w64 left) (lowest_small left some fits) (c.loop-left.invariant.own (trailing_zeros w64 left) (lowest_marked left some fits)))

pub bounds-words-at : goal.bounds-words-at
bounds-words-at c =
    let left = c.loop-left.left in
    let some : 0 < c.loop-left.left = omega arith in
    let fits : c.loop-left.left < 2 ^ 64 = omega arith in
    omega (arith, c.loop-left.auto.words, c.requires.marked (trailing_zeros w64 left) (lowest_small left some fits) (c.loop-left.invariant.own (trailing_zeros w64 left) (lowest_marked left some fits)))

pub loop-left-preserved : goal.loop-left-preserved
loop-left-preserved c =
    let inv = c.loop-left.invariant in
    let left = c.loop-left.left in
    let words = c.loop-left.words in
    let at = c.args.first + trailing_zeros w64 c.loop-left.left in
    let word = get_or c.args.other.now at 0 in
    let some : 0 < c.loop-left.left = omega arith in
    let fits : c.loop-left.left < 2 ^ 64 = omega arith in
    let small = lowest_small left some fits in
    let within : c.args.first + trailing_zeros w64 c.loop-left.left < length c.loop-left.words =
    omega (arith, c.loop-left.auto.words, c.requires.marked (trailing_zeros w64 left) small (inv.own (trailing_zeros w64 left) (lowest_marked left some fits))) in
    record {
      own = λ k is. inv.own k (both_set _ _ (sym (has_bit-and left (left - 1) k) ∙ is)).0;
      below = λ k lt. get_or-set_other words at k word 0 (λ e. omega (arith, e, lt)) ∙ inv.below k lt;
      copied = λ k lt gone. elim (cases_eq k (trailing_zeros w64 c.loop-left.left)) [
        | inl here ↦
            ap (λ n. get_or (set words at word) (c.args.first + n) 0) here ∙ get_or-set_same words at word 0 within
            ∙ ap (λ n. get_or c.args.other.now (c.args.first + n) 0) (sym here)
        | inr apart ↦
            get_or-set_other words at (c.args.first + k) word 0 (λ e. apart (omega (arith, e))) ∙ inv.copied k lt (sym (others_left left some fits k apart) ∙ gone)
      ];
      above = λ k le. get_or-set_other words at k word 0 (λ e. omega (arith, e, le, small)) ∙ inv.above k le;
    }

pub returns-clause-inside : goal.returns-clause-inside
returns-clause-inside c k lt = c.loop-left.invariant.copied k lt (ap (λ n. has_bit n k) c.loop-left-test.false ∙ has_bit-none k)
