use Rattle.std.proofs.Common.{ℕ, ◌≡◌, ◌+◌, ◌*◌, ◌/◌, ◌<◌, false, get_or, ap, ◌∙◌, inl, inr, arith}
use Rattle.std.proofs.lemmas.Bool.{cases_lt}
use Rattle.xw_bits.specs.Bits.{has_bit}
use Rattle.xw_bits.proofs.SetBitLemmas.{rest_clear, lowest_here, below_lowest, within_row}
use Rattle.xw_bits.proofs.ones.next_one.Goals as goal

pub returns-then-word-ne0-clause-set : goal.returns-then-word-ne0-clause-set
returns-then-word-ne0-clause-set c =
    let bits = c.args.row.now.bits in
    let at = c.max-at.result in
    let there : c.in-Some.chunk ≡ c.max-at.result / 64 = omega (arith, c.in-Some.ensures.found.0, c.max-at.ensures) in
    let of_chunk : (k : ℕ) → k < 64 → has_bit c.chunk.result k ≡ get_or c.args.row.now.bits (64 * (c.max-at.result / 64) + k) false = λ k lt. c.chunk.ensures k lt ∙ ap (λ n. get_or bits (64 * n + k) false) there in
    (omega (arith, c.max-at.ensures), (lowest_here (λ i. get_or bits i false) at c.chunk.result of_chunk (omega arith) (omega arith)).1)

pub returns-then-word-ne0-clause-small : goal.returns-then-word-ne0-clause-small
returns-then-word-ne0-clause-small c =
    let bits = c.args.row.now.bits in
    let at = c.max-at.result in
    let there : c.in-Some.chunk ≡ c.max-at.result / 64 = omega (arith, c.in-Some.ensures.found.0, c.max-at.ensures) in
    let of_chunk : (k : ℕ) → k < 64 → has_bit c.chunk.result k ≡ get_or c.args.row.now.bits (64 * (c.max-at.result / 64) + k) false = λ k lt. c.chunk.ensures k lt ∙ ap (λ n. get_or bits (64 * n + k) false) there in
    let set = (lowest_here (λ i. get_or bits i false) at c.chunk.result of_chunk (omega arith) (omega arith)).1 in
    omega (arith, within_row bits _ set, c.len.ensures.value, c.len.ensures.small)

pub returns-then-word-ne0-clause-first : goal.returns-then-word-ne0-clause-first
returns-then-word-ne0-clause-first c i low high =
    let bits = c.args.row.now.bits in
    let at = c.max-at.result in
    let there : c.in-Some.chunk ≡ c.max-at.result / 64 = omega (arith, c.in-Some.ensures.found.0, c.max-at.ensures) in
    let of_chunk : (k : ℕ) → k < 64 → has_bit c.chunk.result k ≡ get_or c.args.row.now.bits (64 * (c.max-at.result / 64) + k) false = λ k lt. c.chunk.ensures k lt ∙ ap (λ n. get_or bits (64 * n + k) false) there in
    elim (cases_lt i c.loop-chunk.at) [
      | inl before ↦ c.loop-chunk.invariant.clear i low before
      | inr from ↦ elim (cases_lt i (64 * c.in-Some.chunk)) [
        | inl passed ↦ c.in-Some.ensures.passed i (omega (arith, from)) passed
        | inr here ↦ below_lowest (λ i. get_or bits i false) at c.chunk.result of_chunk (omega arith) (omega arith) i (omega (arith, from, here, c.max-at.ensures)) high
      ]
    ]

pub loop-chunk-preserved : goal.loop-chunk-preserved
loop-chunk-preserved c =
    let bits = c.args.row.now.bits in
    let at = c.max-at.result in
    let there : c.in-Some.chunk ≡ c.max-at.result / 64 = omega (arith, c.in-Some.ensures.found.0, c.max-at.ensures) in
    let of_chunk : (k : ℕ) → k < 64 → has_bit c.chunk.result k ≡ get_or c.args.row.now.bits (64 * (c.max-at.result / 64) + k) false = λ k lt. c.chunk.ensures k lt ∙ ap (λ n. get_or bits (64 * n + k) false) there in
    record {
      on = omega (arith, c.in-Some.ensures.found.0);
      clear = λ i low high. elim (cases_lt i c.loop-chunk.at) [
        | inl before ↦ c.loop-chunk.invariant.clear i low before
        | inr from ↦ elim (cases_lt i (64 * c.in-Some.chunk)) [
          | inl passed ↦ c.in-Some.ensures.passed i (omega (arith, from)) passed
          | inr here ↦ rest_clear (λ i. get_or bits i false) at c.chunk.result of_chunk (omega arith) c.if-word-ne0.false i (omega (arith, from, here, c.max-at.ensures)) (omega (arith, there, high))
        ]
      ];
    }

pub returns-clause-none : goal.returns-clause-none
returns-clause-none c i low = elim (cases_lt i c.loop-chunk.at) [
  | inl before ↦ c.loop-chunk.invariant.clear i low before
  | inr from ↦ c.in_default.ensures.none i (omega (arith, from))
]
