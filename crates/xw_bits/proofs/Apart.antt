-- Consecutive words that have no bit set.
use Rattle.std.proofs.Common.{◌≡◌, ℕ, ◌+◌, ◌<◌, ◌≤◌, bit_or, ap, ◌∙◌, inl, inr, arith}
use Rattle.std.proofs.lemmas.Bool.{cases_lt}
use Rattle.std.proofs.lemmas.Nat.{le_or_l, le_or_r}

pub none_of_two : (a b : ℕ) → bit_or a b ≡ 0 → (a ≡ 0) × (b ≡ 0)
none_of_two a b none = (omega (arith, le_or_l a b), omega (arith, le_or_r a b))

pub none_of_four : (f : ℕ → ℕ) (at : ℕ) → bit_or (bit_or (bit_or (f at) (f (at + 1))) (f (at + 2))) (f (at + 3)) ≡ 0 → (k : ℕ) → at ≤ k → k < at + 4 → f k ≡ 0
none_of_four f at none k low high =
    let third = none_of_two (bit_or (bit_or (f at) (f (at + 1))) (f (at + 2))) (f (at + 3)) none in
    let second = none_of_two (bit_or (f at) (f (at + 1))) (f (at + 2)) third.0 in
    let first = none_of_two (f at) (f (at + 1)) second.0 in
    elim (cases_lt k (at + 1)) [
      | inl lt ↦ let is : k ≡ at = omega arith in ap f is ∙ first.0
      | inr from ↦ elim (cases_lt k (at + 2)) [
        | inl lt ↦ let is : k ≡ at + 1 = omega arith in ap f is ∙ first.1
        | inr from ↦ elim (cases_lt k (at + 3)) [
          | inl lt ↦ let is : k ≡ at + 2 = omega arith in ap f is ∙ second.1
          | inr from ↦ let is : k ≡ at + 3 = omega arith in ap f is ∙ third.1
        ]
      ]
    ]

-- `span` consecutive words from `at` on are 0
abbrev pub IsClearFrom : (ℕ → ℕ) → ℕ → ℕ → Type 0
IsClearFrom f at span = (k : ℕ) → at ≤ k → k < at + span → f k ≡ 0

clear_both : (f : ℕ → ℕ) (at middle span : ℕ) → IsClearFrom f at middle → IsClearFrom f (at + middle) span → IsClearFrom f at (middle + span)
clear_both f at middle span first second k low high = elim (cases_lt k (at + middle)) [
  | inl lt ↦ first k low lt
  | inr from ↦ second k from (omega (arith, high))
]

pub none_of_two_spans : (f : ℕ → ℕ) (at a b : ℕ) → (a ≡ 0 → IsClearFrom f at 4) → (b ≡ 0 → IsClearFrom f (at + 4) 4) → bit_or a b ≡ 0 → IsClearFrom f at 8
none_of_two_spans f at a b first second none =
    let both = none_of_two a b none in
    clear_both f at 4 4 (first both.0) (second both.1)
