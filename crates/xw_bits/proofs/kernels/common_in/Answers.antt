use Rattle.std.proofs.Common.{◌≡◌, ℕ, ◌+◌, ◌-◌, ◌<◌, ◌^◌, true, length, bit_and, get_or, sym, ap, ◌∙◌, inl, inr, w64, arith}
use Rattle.std.specs.Int.{trailing_zeros}
use Rattle.std.proofs.lemmas.Bool.{cases_eq}
use Rattle.xw_bits.specs.Bits.{has_bit}
use Rattle.xw_bits.proofs.BitLemmas.{has_bit-none, has_bit-and}
use Rattle.xw_bits.proofs.Summaries.{both_set}
use Rattle.xw_bits.proofs.Marks.{lowest_marked, lowest_small, none_below, others_left}
use Rattle.xw_bits.proofs.kernels.common_in.Goals as goal

-- the word of the lowest mark that is left
lowest_within : (marks left first many : ℕ) → 0 < left → left < 2 ^ 64 → ((k : ℕ) → has_bit left k ≡ true → has_bit marks k ≡ true) → ((k : ℕ) → k < 64 → has_bit marks k ≡ true → first + k < many)
    → first + trailing_zeros w64 left < many
lowest_within marks left first many some fits own within = within (trailing_zeros w64 left) (lowest_small left some fits) (own (trailing_zeros w64 left) (lowest_marked left some fits))

pub bounds-words-chunk : goal.bounds-words-chunk
bounds-words-chunk c = lowest_within c.args.marks c.loop-left.left c.args.first _ (omega arith) (omega arith) c.loop-left.invariant.own c.requires.words

pub offset_bounds-words-chunk : goal.offset_bounds-words-chunk
offset_bounds-words-chunk c =
    let within = lowest_within c.args.marks c.loop-left.left c.args.first (length c.args.words.now) (omega arith) (omega arith) c.loop-left.invariant.own c.requires.words in
    record { fits = omega (arith, within) }

pub bounds-other-chunk : goal.bounds-other-chunk
bounds-other-chunk c = lowest_within c.args.marks c.loop-left.left c.args.first _ (omega arith) (omega arith) c.loop-left.invariant.own c.requires.other

pub offset_bounds-other-chunk : goal.offset_bounds-other-chunk
offset_bounds-other-chunk c =
    let within = lowest_within c.args.marks c.loop-left.left c.args.first (length c.args.other.now) (omega arith) (omega arith) c.loop-left.invariant.own c.requires.other in
    record { fits = omega (arith, within) }

pub returns-then-words-chunk-ne0-clause-found : goal.returns-then-words-chunk-ne0-clause-found
returns-then-words-chunk-ne0-clause-found c =
    let left = c.loop-left.left in
    let low = trailing_zeros w64 left in
    let some : 0 < c.loop-left.left = omega arith in
    let fits : c.loop-left.left < 2 ^ 64 = omega arith in
    let place : trailing_zeros w64 c.loop-left.left ≡ c.args.first + trailing_zeros w64 c.loop-left.left - c.args.first = omega arith in
    (omega arith, omega (arith, lowest_small left some fits), ap (has_bit c.args.marks) (sym place) ∙ c.loop-left.invariant.own low (lowest_marked left some fits))

pub returns-then-words-chunk-ne0-clause-passed : goal.returns-then-words-chunk-ne0-clause-passed
returns-then-words-chunk-ne0-clause-passed c k lt before marked =
    let left = c.loop-left.left in
    let some : 0 < c.loop-left.left = omega arith in
    let fits : c.loop-left.left < 2 ^ 64 = omega arith in
    c.loop-left.invariant.passed k lt marked (none_below left some fits k (omega (arith, before)))

pub loop-left-preserved : goal.loop-left-preserved
loop-left-preserved c =
    let left = c.loop-left.left in
    let low = trailing_zeros w64 left in
    let some : 0 < c.loop-left.left = omega arith in
    let fits : c.loop-left.left < 2 ^ 64 = omega arith in
    record {
      own = λ k set. c.loop-left.invariant.own k (both_set _ _ (sym (has_bit-and left (left - 1) k) ∙ set)).0;
      passed = λ k lt marked gone. elim (cases_eq k (trailing_zeros w64 c.loop-left.left)) [
        | inl here ↦ ap (λ n. bit_and (get_or c.args.words.now (c.args.first + n) 0) (get_or c.args.other.now (c.args.first + n) 0)) here ∙ c.if-words-chunk-ne0.false
        | inr apart ↦ c.loop-left.invariant.passed k lt marked (sym (others_left left some fits k apart) ∙ gone)
      ];
    }

pub returns-clause-none : goal.returns-clause-none
returns-clause-none c k lt marked =
    c.loop-left.invariant.passed k lt marked (ap (λ n. has_bit n k) c.loop-left-test.false ∙ has_bit-none k)
