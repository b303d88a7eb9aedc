-- The number of set bits in the first words.
use Rattle.std.proofs.Common.{◌≡◌, ◌^◌, length-set, count_by, set, inl, inr, refl, sym, subst, ℕ, zero, suc, ◌+◌, ◌-◌, ◌*◌, ◌≤◌, ◌<◌, List, length, [], ◌∷◌, take, drop, get_or, slice_range, sum_by, count_ones, Fits, w64, ap, ◌∙◌, arith}
use Rattle.std.proofs.Math.Seq.{take-add, take-length}
use Rattle.std.proofs.lemmas.Bool.{cases_eq}
use Rattle.std.proofs.lemmas.List.{get_or-set_same, get_or-set_other}
use lib.Count.{ones}
use Rattle.xw_bits.specs.Bits.{bits_of}
use Rattle.xw_bits.proofs.BitLemmas.{ones_of_row}
use Rattle.std.proofs.lemmas.List.Sums.{sum_by-append, sum_by-cons, sum_by_more, sum_by-set}
use Rattle.std.proofs.lemmas.Nat.{ones-le}

-- at most 64 for each word
pub ones_few : (xs : List ℕ) (n : ℕ) → ((k : ℕ) → Fits w64 (get_or xs k 0)) → sum_by count_ones (take n xs) ≤ 64 * n
ones_few xs zero fit = omega arith
ones_few [] (suc n) fit = omega arith
ones_few (x ∷ xs) (suc n) fit =
    omega (arith, sum_by-cons count_ones x (take n xs), ones_few xs n (λ k. fit (suc k)), ones-le 64 x (fit 0).fits)

-- the count after some more words
pub ones_more : (xs : List ℕ) (at n : ℕ) → sum_by count_ones (take (at + n) xs) ≡ sum_by count_ones (take at xs) + sum_by count_ones (slice_range xs at (at + n))
ones_more xs at n =
    let many : n ≡ at + n - at = omega arith in
    ap (sum_by count_ones) (take-add at n xs) ∙ sum_by-append count_ones (take at xs) (take n (drop at xs))
    ∙ ap (λ m. sum_by count_ones (take at xs) + sum_by count_ones (take m (drop at xs))) many

ones_of_zero : count_ones 0 ≡ 0
unfolding ones
ones_of_zero = refl

-- words without a set bit add nothing
pub ones_none : (xs : List ℕ) (at n : ℕ) → at + n ≤ length xs → ((k : ℕ) → at ≤ k → k < at + n → get_or xs k 0 ≡ 0) → sum_by count_ones (slice_range xs at (at + n)) ≡ 0
ones_none xs at n within none = omega (arith, ones_more xs at n, same n within none) where
  same : (m : ℕ) → at + m ≤ length xs → ((k : ℕ) → at ≤ k → k < at + m → get_or xs k 0 ≡ 0) → sum_by count_ones (take (at + m) xs) ≡ sum_by count_ones (take at xs)
  same zero within none = ap (λ k. sum_by count_ones (take k xs)) (omega arith)
  same (suc m) within none =
      let last : count_ones (get_or xs (at + m) 0) ≡ 0 = ap count_ones (none (at + m) (omega arith) (omega arith)) ∙ ones_of_zero in
      let one_more : at + suc m ≡ at + m + 1 = omega arith in
      ap (λ k. sum_by count_ones (take k xs)) one_more
      ∙ omega (arith, sum_by_more count_ones xs (at + m) 0 (omega arith), last, same m (omega arith) (λ k le lt. none k le (omega arith)))

-- two blocks of four words
pub ones_blocks : (xs : List ℕ) (at : ℕ)
    → sum_by count_ones (slice_range xs at (at + 4)) + sum_by count_ones (slice_range xs (at + 4) (at + 4 + 4)) ≡ sum_by count_ones (slice_range xs at (at + 8))
ones_blocks xs at =
    let eight : at + 4 + 4 ≡ at + 8 = omega arith in
    omega (arith, ones_more xs at 4, ones_more xs (at + 4) 4, ones_more xs at 8, ap (λ k. sum_by count_ones (take k xs)) eight)

-- the count of a row after a word was replaced
module _ (xs : List ℕ) (at word : ℕ) (within : at < length xs) (fit : (k : ℕ) → Fits w64 (get_or xs k 0)) (fits : word < 2 ^ 64) where
  set_fits : (k : ℕ) → Fits w64 (get_or (set xs at word) k 0)
  set_fits k =
      elim (cases_eq k at) [
        | inl same ↦ subst (λ n. Fits w64 n) (sym (ap (λ n. get_or (set xs at word) n 0) same ∙ get_or-set_same xs at word 0 within)) (record { fits = fits })
        | inr differs ↦ subst (λ n. Fits w64 n) (sym (get_or-set_other xs at k word 0 differs)) (fit k)
      ]

  abbrev count_of : List ℕ → ℕ
  count_of ws = count_by (λ b. b) (bits_of ws (64 * length ws))

  replaced : count_of (set xs at word) + count_ones (get_or xs at 0) ≡ count_of xs + count_ones word
  replaced = omega (arith, sum_by-set count_ones xs at word 0 within, ones_of_row xs fit, ones_of_row (set xs at word) set_fits)

  module _ (count : ℕ) (known : count ≡ count_of xs) where
    pub count_enough : count_ones (get_or xs at 0) ≤ count
    count_enough = omega (arith, known, sum_by-set count_ones xs at 0 0 within, ones_of_row xs fit, ones_of_zero)

    pub count_small : count ≤ 64 * length xs
    count_small = omega (arith, known, ones_few xs (length xs) fit, ap (sum_by count_ones) (take-length xs), ones_of_row xs fit)

    pub count_replaced : count - count_ones (get_or xs at 0) + count_ones word ≡ count_by (λ b. b) (bits_of (set xs at word) (64 * length xs))
    count_replaced =
        omega (arith, known, replaced, count_enough) ∙ ap (λ n. count_by (λ b. b) (bits_of (set xs at word) (64 * n))) (length-set xs at word)
