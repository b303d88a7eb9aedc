-- The marks of a word of a summary: those left without the lowest, and those from an index on.
use Rattle.std.proofs.Common.{◌≡◌, ◌≢◌, ℕ, zero, suc, ◌-◌, ◌*◌, ◌/◌, ◌%◌, ◌^◌, ◌<◌, Bool, true, false, not, ◌&&◌, eqb, ltb, bit_and, refl, sym, ap, ◌∙◌, inl, inr, w64, arith}
use Rattle.std.specs.Int.{bit_at, trailing_zeros}
use Rattle.std.proofs.lemmas.Nat.Bits.{bit_at_lowest, bit_at-suc, bit_at-trailing_zeros, ones_shl, bit_at_ones, bit_at_mask_inside, bit_at_mask_below}
use Rattle.std.proofs.lemmas.Bool.{cases_lt, eq-eqb, lt-ltb, le-ltb}
use Rattle.xw_bits.specs.Bits.{has_bit}
use Rattle.xw_bits.proofs.BitLemmas.{has_bit-and}

-- ---- a number less one

same_above : (w k : ℕ) → (w - 1) / 2 ≡ w / 2 → 0 < k → bit_at (w - 1) k ≡ bit_at w k
same_above w zero half lt = absurd (omega arith)
same_above w (suc k) half lt = bit_at-suc (w - 1) k ∙ ap (λ n. bit_at n k) half ∙ sym (bit_at-suc w k)

-- a number less one has the 1s above its lowest
pub above_lowest : (t w k : ℕ) → 0 < w → bit_at w t ≡ 1 → ((i : ℕ) → i < t → bit_at w i ≡ 0) → t < k → bit_at (w - 1) k ≡ bit_at w k
above_lowest zero w k some set low lt =
    let odd : w % 2 ≡ 1 = sym (bit_at_lowest w) ∙ set in
    same_above w k (omega arith) lt
above_lowest (suc t) w zero some set low lt = absurd (omega arith)
above_lowest (suc t) w (suc k) some set low lt =
    let even : w % 2 ≡ 0 = sym (bit_at_lowest w) ∙ low 0 (omega arith) in
    let half : (w - 1) / 2 ≡ w / 2 - 1 = omega arith in
    bit_at-suc (w - 1) k ∙ ap (λ n. bit_at n k) half
    ∙ above_lowest t (w / 2) k (omega arith) (sym (bit_at-suc w t) ∙ set) (λ i below. sym (bit_at-suc w i) ∙ low (suc i) (omega arith)) (omega arith)
    ∙ sym (bit_at-suc w k)

-- a number less one has a 0 in place of its lowest 1
pub at_lowest : (t w : ℕ) → 0 < w → bit_at w t ≡ 1 → ((i : ℕ) → i < t → bit_at w i ≡ 0) → bit_at (w - 1) t ≡ 0
at_lowest zero w some set low =
    let odd : w % 2 ≡ 1 = sym (bit_at_lowest w) ∙ set in
    bit_at_lowest (w - 1) ∙ omega arith
at_lowest (suc t) w some set low =
    let even : w % 2 ≡ 0 = sym (bit_at_lowest w) ∙ low 0 (omega arith) in
    let half : (w - 1) / 2 ≡ w / 2 - 1 = omega arith in
    bit_at-suc (w - 1) t ∙ ap (λ n. bit_at n t) half
    ∙ at_lowest t (w / 2) (omega arith) (sym (bit_at-suc w t) ∙ set) (λ i below. sym (bit_at-suc w i) ∙ low (suc i) (omega arith))

-- ---- a word without its lowest mark

and_self : (b : Bool) → (b && b) ≡ b
and_self true = refl
and_self false = refl

module _ (w : ℕ) (some : 0 < w) (fits : w < 2 ^ 64) where
  pub lowest_marked : has_bit w (trailing_zeros w64 w) ≡ true
  unfolding has_bit
  lowest_marked = eq-eqb (bit_at w (trailing_zeros w64 w)) 1 (bit_at-trailing_zeros w64 w some fits).1

  pub lowest_small : trailing_zeros w64 w < 64
  lowest_small = (bit_at-trailing_zeros w64 w some fits).0

  pub none_below : (k : ℕ) → k < trailing_zeros w64 w → has_bit w k ≡ false
  unfolding has_bit
  none_below k lt = ap (λ x. eqb x 1) ((bit_at-trailing_zeros w64 w some fits).2 k lt)

  pub others_left : (k : ℕ) → k ≢ trailing_zeros w64 w → has_bit (bit_and w (w - 1)) k ≡ has_bit w k
  unfolding has_bit
  others_left k apart =
      let found = bit_at-trailing_zeros w64 w some fits in
      has_bit-and w (w - 1) k
      ∙ elim (cases_lt k (trailing_zeros w64 w)) [
        | inl below ↦ ap (λ b. b && has_bit (w - 1) k) (none_below k below) ∙ sym (none_below k below)
        | inr le ↦
            ap (λ x. has_bit w k && eqb x 1) (above_lowest (trailing_zeros w64 w) w k some found.1 found.2 (omega arith))
            ∙ and_self (has_bit w k)
      ]

-- ---- all marks, and those from an index on

pub marks_from : (s k : ℕ) → s < 64 → k < 64 → has_bit ((2 ^ 64 - 1) * 2 ^ s % 2 ^ 64) k ≡ not (ltb k s)
unfolding has_bit
marks_from s k within lt =
    ap (λ n. has_bit n k) (ones_shl 64 s (omega arith))
    ∙ elim (cases_lt k s) [
      | inl below ↦ ap (λ x. eqb x 1) (bit_at_mask_below s 64 k below) ∙ sym (ap not (lt-ltb k s below))
      | inr from ↦ ap (λ x. eqb x 1) (bit_at_mask_inside s 64 k from lt) ∙ sym (ap not (le-ltb k s from))
    ]

pub all_marks : (k : ℕ) → k < 64 → has_bit (2 ^ 64 - 1) k ≡ true
unfolding has_bit
all_marks k lt = ap (λ x. eqb x 1) (bit_at_ones 64 k lt)
