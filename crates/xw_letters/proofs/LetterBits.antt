-- The letters of a set as the bits of its number.
use Rattle.std.proofs.Common.{◌≡◌, ℕ, zero, suc, ◌+◌, ◌-◌, ◌/◌, ◌^◌, ◌<◌, ◌≤◌, Bool, true, false, not, ◌&&◌, cond, eqb, bit_and, subst, length, map, take, count_by, refl, ap, sym, ◌∙◌, inl, inr, w32, arith, count_ones}
use Rattle.std.specs.Prelude.{filter}
use Rattle.std.specs.Int.{bit_at, trailing_zeros}
use Rattle.std.specs.List.{range_with_len}
use Rattle.std.proofs.lemmas.Bool.{cases_Bool, cases_eq, cases_lt, both_ways, eq-eqb, ne_eqb}
use Rattle.std.proofs.lemmas.Bool.Decides.{nat_tests}
use Rattle.std.proofs.lemmas.Nat.{shr_le}
use Rattle.std.proofs.lemmas.Nat.Bits.{bit_at-trailing_zeros, bit_at-zero, bit_at_above}
use Rattle.std.proofs.lemmas.List.{take_all}
use Rattle.std.proofs.lemmas.List.FromFn.{sum_by-map-range_with_len_more}
use Rattle.xw_letters.specs.Letter.{alphabet, is_capital}
use Rattle.xw_letters.specs.LetterSet.{has, letters_in}
use Rattle.xw_bits.specs.Bits.{has_bit}
use Rattle.xw_bits.proofs.BitLemmas.{ones_of_word}
use Rattle.xw_bits.proofs.SetBitLemmas.{has_bit-shifted}
use Rattle.xw_bits.proofs.Marks.{above_lowest, at_lowest}
use Rattle.xw_letters.proofs.LetterSetLemmas.{letter_is_capital, capital_is_letter, has-common, length-alphabet, count-more}

has_at : (set index : ℕ) → index < 26 → has set (65 + index) ≡ has_bit set index
unfolding has_bit
has_at set index within =
    let is : is_capital (65 + index) ≡ true = letter_is_capital (65 + index) (omega arith, omega arith) in
    let back : 65 + index - 65 ≡ index = omega arith in
    rw is (ap (λ n. eqb (bit_at set n) 1) back)

has_past : (set index : ℕ) → 26 ≤ index → has set (65 + index) ≡ false
has_past set index past =
    let none : is_capital (65 + index) ≡ false = grind (arith, nat_tests) in
    rw none refl

-- ---- the letters of a shifted set
module _ (set from : ℕ) where
  shifted : (other : ℕ) → from ≤ other → other < 26 → has set (65 + other) ≡ has_bit (set / 2 ^ from) (other - from)
  shifted other low within =
      let is : from + (other - from) ≡ other = omega arith in
      has_at set other within ∙ ap (has_bit set) (sym is) ∙ sym (has_bit-shifted set from (other - from))

  pub none_from : set / 2 ^ from ≡ 0 → (other : ℕ) → from ≤ other → has set (65 + other) ≡ false
  unfolding has_bit
  none_from clear other low =
      elim (cases_lt other 26) [
        | inl within ↦ shifted other low within ∙ ap (λ w. has_bit w (other - from)) clear ∙ ap (λ x. eqb x 1) (bit_at-zero (other - from))
        | inr past ↦ has_past set other past
      ]

  module _ (small : set < 2 ^ 26) (some : 0 < set / 2 ^ from) where
    fits : set / 2 ^ from < 2 ^ 32
    fits = omega (arith, shr_le set from)

    pub first_index : (from + trailing_zeros w32 (set / 2 ^ from) < 26) × (has set (65 + (from + trailing_zeros w32 (set / 2 ^ from))) ≡ true)
    unfolding has_bit
    first_index =
        let low = trailing_zeros w32 (set / 2 ^ from) in
        let found = bit_at-trailing_zeros w32 (set / 2 ^ from) some fits in
        let on : has_bit (set / 2 ^ from) low ≡ true = eq-eqb (bit_at (set / 2 ^ from) low) 1 found.1 in
        let here : has_bit set (from + low) ≡ true = sym (has_bit-shifted set from low) ∙ on in
        let within : from + low < 26 =
        elim (cases_lt (from + low) 26) [
          | inl lt ↦ lt
          | inr past ↦ absurd (both_ways (has_bit set (from + low)) (ap (λ x. eqb x 1) (bit_at_above set 26 (from + low) small past)) here)
        ] in
        (within, has_at set (from + low) within ∙ here)

    pub none_before : (other : ℕ) → from ≤ other → other < from + trailing_zeros w32 (set / 2 ^ from) → has set (65 + other) ≡ false
    unfolding has_bit
    none_before other low high =
        let found = bit_at-trailing_zeros w32 (set / 2 ^ from) some fits in
        shifted other low (omega (arith, first_index.0)) ∙ ap (λ x. eqb x 1) (found.2 (other - from) (omega arith))

and_self : (b : Bool) → (b && b) ≡ (b && true)
and_self true = refl
and_self false = refl

-- ---- the letters of a set without the first
module _ (set : ℕ) (some : 0 < set) (small : set < 2 ^ 26) where
  lowest : (trailing_zeros w32 set < 32) × (bit_at set (trailing_zeros w32 set) ≡ 1) × ((i : ℕ) → i < trailing_zeros w32 set → bit_at set i ≡ 0)
  lowest = bit_at-trailing_zeros w32 set some (omega arith)

  pub first_within : trailing_zeros w32 set < 26
  first_within = elim (cases_lt (trailing_zeros w32 set) 26) [
    | inl lt ↦ lt
    | inr past ↦ absurd (omega (arith, lowest.1, bit_at_above set 26 (trailing_zeros w32 set) small past))
  ]

  pub first_there : has set (65 + trailing_zeros w32 set) ≡ true
  unfolding has_bit
  first_there = has_at set (trailing_zeros w32 set) first_within ∙ eq-eqb (bit_at set (trailing_zeros w32 set)) 1 lowest.1

  pub first_is_first : (other : ℕ) → other < trailing_zeros w32 set → has set (65 + other) ≡ false
  unfolding has_bit
  first_is_first other before = has_at set other (omega (arith, before, first_within)) ∙ ap (λ x. eqb x 1) (lowest.2 other before)

  taken_at : (index : ℕ) → index < 26 → (has set (65 + index) && has (set - 1) (65 + index)) ≡ (has set (65 + index) && not (eqb (65 + index) (65 + trailing_zeros w32 set)))
  unfolding has_bit
  taken_at index within = elim (cases_lt index (trailing_zeros w32 set)) [
    | inl before ↦
        ap (λ b. b && has (set - 1) (65 + index)) (first_is_first index before)
        ∙ sym (ap (λ b. b && not (eqb (65 + index) (65 + trailing_zeros w32 set))) (first_is_first index before))
    | inr from ↦ elim (cases_eq index (trailing_zeros w32 set)) [
      | inl here ↦
          let gone : has (set - 1) (65 + index) ≡ false = has_at (set - 1) index within ∙ ap (λ x. eqb x 1) (ap (bit_at (set - 1)) here ∙ at_lowest (trailing_zeros w32 set) set some lowest.1 lowest.2) in
          let same : eqb (65 + index) (65 + trailing_zeros w32 set) ≡ true = eq-eqb (65 + index) (65 + trailing_zeros w32 set) (ap (λ n. 65 + n) here) in
          ap (λ b. has set (65 + index) && b) gone ∙ sym (ap (λ b. has set (65 + index) && not b) same)
      | inr apart ↦
          let kept : has (set - 1) (65 + index) ≡ has set (65 + index) =
          has_at (set - 1) index within ∙ ap (λ x. eqb x 1) (above_lowest (trailing_zeros w32 set) set index some lowest.1 lowest.2 (omega arith)) ∙ sym (has_at set index within) in
          let other : eqb (65 + index) (65 + trailing_zeros w32 set) ≡ false = ne_eqb (65 + index) (65 + trailing_zeros w32 set) (λ e. apart (omega (arith, e))) in
          ap (λ b. has set (65 + index) && b) kept ∙ and_self (has set (65 + index)) ∙ sym (ap (λ b. has set (65 + index) && not b) other)
    ]
  ]

  pub first_taken : (letter : ℕ) → has (bit_and set (set - 1)) letter ≡ (has set letter && not (eqb letter (65 + trailing_zeros w32 set)))
  first_taken letter =
      has-common set (set - 1) letter
      ∙ elim (cases_Bool (is_capital letter)) [
        | inl is ↦
            let at = capital_is_letter letter is in
            let place : 65 + (letter - 65) ≡ letter = omega (arith, at.0) in
            subst (λ l. (has set l && has (set - 1) l) ≡ (has set l && not (eqb l (65 + trailing_zeros w32 set)))) place (taken_at (letter - 65) (omega (arith, at.1)))
        | inr none ↦ rw none refl
      ]

-- the number of the first letters of the alphabet that are in a set
counted : (set k : ℕ) → k ≤ 26 → length (filter (has set) (take k alphabet)) ≡ count_by (λ b. b) (map (λ i. has_bit set i) (range_with_len 0 k))
counted set zero few = refl
counted set (suc k) few =
    let next : suc k ≡ k + 1 = omega arith in
    let f = λ (i : ℕ). has_bit set i in
    ap (λ n. length (filter (has set) (take n alphabet))) next ∙ count-more set k (omega arith)
    ∙ ap (λ n. n + cond (has set (65 + k)) 1 0) (counted set k (omega arith))
    ∙ ap (λ b. count_by (λ b. b) (map f (range_with_len 0 k)) + cond b 1 0) (has_at set k (omega arith))
    ∙ sym (ap (λ n. count_by (λ b. b) (map f (range_with_len 0 n))) next ∙ sum_by-map-range_with_len_more (λ b. cond b 1 0) f 0 k k (omega arith))

-- a set has as many letters as its number has set bits
pub letters_counted : (set : ℕ) → set < 2 ^ 26 → count_ones set ≡ length (letters_in set)
letters_counted set small =
    sym
    (ap (λ letters. length (filter (has set) letters)) (sym (take_all 26 alphabet (omega (arith, length-alphabet))))
    ∙ counted set 26 (omega arith)
    ∙ ones_of_word 26 set small)
