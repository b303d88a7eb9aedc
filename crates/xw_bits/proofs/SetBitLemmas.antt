-- Indices that are skipped, and the first one whose bit is set.
use Rattle.std.proofs.Common.{◌≡◌, ℕ, zero, suc, ◌+◌, ◌-◌, ◌*◌, ◌/◌, ◌%◌, ◌^◌, ◌<◌, ◌≤◌, Bool, true, false, cond, eqb, List, [], ◌∷◌, length, filter, get_or, refl, sym, ap, ◌∙◌, inl, inr, w64, arith}
use Rattle.std.specs.Int.{bit_at, trailing_zeros}
use Rattle.std.specs.List.{range_with_len}
use Rattle.std.proofs.lemmas.Nat.{shr-shr}
use Rattle.std.proofs.lemmas.Nat.{shr_le}
use Rattle.std.proofs.lemmas.Nat.Bits.{bit_at-trailing_zeros, bit_at-zero, bit_at_above}
use Rattle.std.proofs.lemmas.Bool.{cases_lt, both_ways, eq-eqb}
use Rattle.std.proofs.lemmas.List.{get_or_past}
use Rattle.xw_bits.specs.Bits.{has_bit}
use Rattle.xw_bits.specs.SetBits.{set_indices}

-- the bits of a shifted word
pub has_bit-shifted : (w t i : ℕ) → has_bit (w / 2 ^ t) i ≡ has_bit w (t + i)
unfolding has_bit
has_bit-shifted w t i = ap (λ x. eqb (x % 2) 1) (shr-shr w t i)

filter_none : (p : ℕ → Bool) (a n : ℕ) → ((i : ℕ) → a ≤ i → i < a + n → p i ≡ false) → filter p (range_with_len a n) ≡ []
filter_none p a zero none = refl
filter_none p a (suc n) none =
    ap (λ t. cond t (a ∷ filter p (range_with_len (a + 1) n)) (filter p (range_with_len (a + 1) n))) (none a (omega arith) (omega arith))
    ∙ filter_none p (a + 1) n (λ i low high. none i (omega arith) (omega arith))

filter_skip : (p : ℕ → Bool) (a k n : ℕ) → ((i : ℕ) → a ≤ i → i < a + k → p i ≡ false) → filter p (range_with_len a (k + n)) ≡ filter p (range_with_len (a + k) n)
filter_skip p a zero n none =
    let many : 0 + n ≡ n = omega arith in
    let from : a ≡ a + 0 = omega arith in
    ap (λ m. filter p (range_with_len a m)) many ∙ ap (λ b. filter p (range_with_len b n)) from
filter_skip p a (suc k) n none =
    let many : suc k + n ≡ suc (k + n) = omega arith in
    let from : a + 1 + k ≡ a + suc k = omega arith in
    ap (λ m. filter p (range_with_len a m)) many
    ∙ ap (λ t. cond t (a ∷ filter p (range_with_len (a + 1) (k + n))) (filter p (range_with_len (a + 1) (k + n)))) (none a (omega arith) (omega arith))
    ∙ filter_skip p (a + 1) k n (λ i low high. none i (omega arith) (omega arith)) ∙ ap (λ b. filter p (range_with_len b n)) from

filter_first : (p : ℕ → Bool) (a n : ℕ) → p a ≡ true → filter p (range_with_len a (suc n)) ≡ a ∷ filter p (range_with_len (a + 1) n)
filter_first p a n h = ap (λ t. cond t (a ∷ filter p (range_with_len (a + 1) n)) (filter p (range_with_len (a + 1) n))) h

-- no bit from an index on is set
pub set_indices_none : (bits : List Bool) (from : ℕ) → ((i : ℕ) → from ≤ i → get_or bits i false ≡ false) → set_indices bits from ≡ []
unfolding set_indices
set_indices_none bits from none = filter_none (λ i. get_or bits i false) from (length bits - from) (λ i low high. none i low)

-- the index of a set bit is less than the length
pub within_row : (bits : List Bool) (index : ℕ) → get_or bits index false ≡ true → index < length bits
within_row bits index set =
    elim (cases_lt index (length bits)) [
      | inl lt ↦ lt
      | inr past ↦ absurd (both_ways (get_or bits index false) (get_or_past bits index false past) set)
    ]

-- the first index of a set bit, and those after it
pub set_indices_first : (bits : List Bool) (from index : ℕ) → from ≤ index → get_or bits index false ≡ true → ((i : ℕ) → from ≤ i → i < index → get_or bits i false ≡ false)
    → set_indices bits from ≡ index ∷ set_indices bits (index + 1)
unfolding set_indices
set_indices_first bits from index le set none =
    let test = λ (i : ℕ). get_or bits i false in
    let within : index < length bits = within_row bits index set in
    let many : length bits - from ≡ index - from + suc (length bits - (index + 1)) = omega arith in
    let there : from + (index - from) ≡ index = omega arith in
    ap (λ n. filter test (range_with_len from n)) many
    ∙ filter_skip test from (index - from) (suc (length bits - (index + 1))) (λ i low high. none i low (omega arith))
    ∙ ap (λ a. filter test (range_with_len a (suc (length bits - (index + 1))))) there ∙ filter_first test index (length bits - (index + 1)) set

-- ---- the bits of a shifted chunk
module _ (f : ℕ → Bool) (at word : ℕ) (of_chunk : (k : ℕ) → k < 64 → has_bit word k ≡ f (64 * (at / 64) + k)) (fits : word < 2 ^ 64) where
  bit_there : (i : ℕ) → at % 64 + i < 64 → has_bit (word / 2 ^ (at % 64)) i ≡ f (at + i)
  bit_there i lt =
      let is : 64 * (at / 64) + (at % 64 + i) ≡ at + i = omega arith in
      has_bit-shifted word (at % 64) i ∙ of_chunk (at % 64 + i) lt ∙ ap f is

  -- bits shifted in from past the word are clear
  past_word : (i : ℕ) → 64 ≤ at % 64 + i → has_bit (word / 2 ^ (at % 64)) i ≡ false
  unfolding has_bit
  past_word i le = has_bit-shifted word (at % 64) i ∙ ap (λ x. eqb x 1) (bit_at_above word 64 (at % 64 + i) fits le)

  pub rest_clear : word / 2 ^ (at % 64) ≡ 0 → (i : ℕ) → at ≤ i → i < at / 64 * 64 + 64 → f i ≡ false
  unfolding has_bit
  rest_clear clear i low high =
      let is : at + (i - at) ≡ i = omega arith in
      ap f (sym is) ∙ sym (bit_there (i - at) (omega arith)) ∙ ap (λ w. has_bit w (i - at)) clear ∙ ap (λ x. eqb x 1) (bit_at-zero (i - at))

  shifted_small : word / 2 ^ (at % 64) < 2 ^ 64
  shifted_small = omega (arith, shr_le word (at % 64), fits)

  pub lowest_here : 0 < word / 2 ^ (at % 64) → (at % 64 + trailing_zeros w64 (word / 2 ^ (at % 64)) < 64) × (f (at + trailing_zeros w64 (word / 2 ^ (at % 64))) ≡ true)
  unfolding has_bit
  lowest_here some =
      let shifted = word / 2 ^ (at % 64) in
      let low = trailing_zeros w64 shifted in
      let found = bit_at-trailing_zeros w64 shifted some shifted_small in
      let set : has_bit shifted low ≡ true = eq-eqb (bit_at shifted low) 1 found.1 in
      let within : at % 64 + low < 64 =
      elim (cases_lt (at % 64 + low) 64) [ inl lt ↦ lt | inr le ↦ absurd (both_ways (has_bit shifted low) (past_word low le) set) ] in
      (within, sym (bit_there low within) ∙ set)

  pub below_lowest : 0 < word / 2 ^ (at % 64) → (i : ℕ) → at ≤ i → i < at + trailing_zeros w64 (word / 2 ^ (at % 64)) → f i ≡ false
  unfolding has_bit
  below_lowest some i low high =
      let shifted = word / 2 ^ (at % 64) in
      let found = bit_at-trailing_zeros w64 shifted some shifted_small in
      let is : at + (i - at) ≡ i = omega arith in
      ap f (sym is) ∙ sym (bit_there (i - at) (omega (arith, (lowest_here some).0))) ∙ ap (λ x. eqb x 1) (found.2 (i - at) (omega arith))
