-- Words of which eight are intersected with a block, and the number of bits that are left.
use Rattle.std.proofs.Common.{◌≡◌, ℕ, zero, suc, ◌+◌, ◌-◌, ◌*◌, ◌≤◌, ◌<◌, ◌^◌, Bool, true, false, not, cond, ◌&&◌, List, [], ◌∷◌, ◌++◌, length, length-append, length-take, length-drop, map, take, drop, get_or, bit_and, sum_by, count_by, count_ones, Fits, w64, refl, sym, ap, ◌∙◌, subst, inl, inr, arith}
use lib.Lanes.{zip2}
use Rattle.std.specs.Int.{bit_not}
use Rattle.std.specs.List.{range_with_len}
use Rattle.std.proofs.lemmas.Bool.{cases_lt}
use Rattle.std.proofs.lemmas.Nat.{and_le_l}
use Rattle.std.proofs.lemmas.List.{ext_get_or, get_or-take, get_or-drop, get_or_append_left, length-map, drop-drop}
use Rattle.std.proofs.Math.Seq.{get_or-append_right}
use Rattle.std.proofs.lemmas.List.Sums.{sum_by-append, sum_by-cons, sum_by-take-drop}
use Rattle.std.proofs.lemmas.Simd.{get_or-zip2, length-zip2}
use Rattle.xw_bits.specs.Bits.{without, has_bit, bits_of, block_kept}
use Rattle.xw_bits.proofs.BitLemmas.{has_bit-and, has_bit-without, ones_of_word, ones_of_row}

-- ---- the bits of a word that another has, and those that it has not

ones_apart : (x y : Bool) → cond (x && y) 1 0 + cond (x && not y) 1 0 ≡ cond x 1 0
ones_apart true true = refl
ones_apart true false = refl
ones_apart false y = refl

counts_apart : (f g h : ℕ → Bool) (a n : ℕ) → ((i : ℕ) → i < a + n → cond (f i) 1 0 + cond (g i) 1 0 ≡ cond (h i) 1 0)
    → count_by (λ b. b) (map f (range_with_len a n)) + count_by (λ b. b) (map g (range_with_len a n)) ≡ count_by (λ b. b) (map h (range_with_len a n))
counts_apart f g h a zero each = refl
counts_apart f g h a (suc n) each =
    let one : Bool → ℕ = λ b. cond b 1 0 in
    omega (
      arith,
      sum_by-cons one (f a) (map f (range_with_len (a + 1) n)),
      sum_by-cons one (g a) (map g (range_with_len (a + 1) n)),
      sum_by-cons one (h a) (map h (range_with_len (a + 1) n)),
      each a (omega arith),
      counts_apart f g h (a + 1) n (λ i lt. each i (omega (arith, lt))),
    )

pub ones_parted : (a b : ℕ) → a < 2 ^ 64 → b < 2 ^ 64 → count_ones (bit_and a b) + count_ones (without a b) ≡ count_ones a
ones_parted a b fits fits_too =
    let parted = counts_apart (has_bit (bit_and a b)) (has_bit (without a b)) (has_bit a) 0 64 (λ i lt.
    ap (λ t. cond t 1 0 + cond (has_bit (without a b) i) 1 0) (has_bit-and a b i)
    ∙ ap (λ t. cond (has_bit a i && has_bit b i) 1 0 + cond t 1 0) (has_bit-without a b i fits_too (omega (arith, lt)))
    ∙ ones_apart (has_bit a i) (has_bit b i)) in
    omega (
      arith,
      parted,
      ones_of_word 64 (bit_and a b) (omega (arith, and_le_l a b, fits)),
      ones_of_word 64 (without a b) (omega (arith, and_le_l a (bit_not w64 b), fits)),
      ones_of_word 64 a fits,
    )

-- the same for lists of words
pub ones_of_parts : (xs ys : List ℕ) → length xs ≡ length ys → ((k : ℕ) → k < length xs → Fits w64 (get_or xs k 0)) → ((k : ℕ) → k < length ys → Fits w64 (get_or ys k 0))
    → sum_by count_ones (zip2 bit_and xs ys) + sum_by count_ones (zip2 bit_and xs (map (bit_not w64) ys)) ≡ sum_by count_ones xs
ones_of_parts [] [] long fit fit_too = refl
ones_of_parts [] (y ∷ ys) long fit fit_too = refl
ones_of_parts (x ∷ xs) [] long fit fit_too = absurd (omega (arith, long))
ones_of_parts (x ∷ xs) (y ∷ ys) long fit fit_too =
    omega (
      arith,
      sum_by-cons count_ones (bit_and x y) (zip2 bit_and xs ys),
      sum_by-cons count_ones (without x y) (zip2 bit_and xs (map (bit_not w64) ys)),
      sum_by-cons count_ones x xs,
      ones_parted x y (fit 0 (omega arith)).fits (fit_too 0 (omega arith)).fits,
      ones_of_parts xs ys (omega (arith, long)) (λ k lt. fit (suc k) (omega (arith, lt))) (λ k lt. fit_too (suc k) (omega (arith, lt))),
    )

-- ---- words with a block kept

module _ (words block : List ℕ) (at : ℕ) (room : at + 8 ≤ length words) (eight : length block ≡ 8) where
  abbrev first : List ℕ
  first = take at words

  abbrev middle : List ℕ
  middle = take 8 (drop at words)

  abbrev kept : List ℕ
  kept = zip2 bit_and middle block

  abbrev last : List ℕ
  last = drop (at + 8) words

  length-first : length first ≡ at
  length-first = omega (arith, length-take at words, room)

  length-middle : length middle ≡ 8
  length-middle = omega (arith, length-take 8 (drop at words), length-drop at words, room)

  length-middle_kept : length kept ≡ 8
  length-middle_kept = length-zip2 bit_and middle block (length-middle ∙ sym eight) ∙ length-middle

  abbrev gone : List ℕ
  gone = zip2 bit_and middle (map (bit_not w64) block)

  pub length-gone : length gone ≡ 8
  length-gone = length-zip2 bit_and middle (map (bit_not w64) block) (length-middle ∙ sym (length-map block (bit_not w64) ∙ eight)) ∙ length-middle

  pub length-kept : length (block_kept words at block) ≡ length words
  length-kept = omega (arith, length-append first (kept ++ last), length-append kept last, length-first, length-middle_kept, length-drop (at + 8) words, room)

  pub word_below : (k : ℕ) → k < at → get_or (block_kept words at block) k 0 ≡ get_or words k 0
  word_below k lt = get_or_append_left first (kept ++ last) 0 k (omega (arith, lt, length-first)) ∙ get_or-take at words k 0 lt

  past_first : (k : ℕ) → get_or (block_kept words at block) (at + k) 0 ≡ get_or (kept ++ last) k 0
  past_first k =
      let place : at + k - length first ≡ k = omega (arith, length-first) in
      get_or-append_right first (kept ++ last) (at + k) 0 (omega (arith, length-first)) ∙ ap (λ n. get_or (kept ++ last) n 0) place

  pub word_inside : (k : ℕ) → k < 8 → get_or (block_kept words at block) (at + k) 0 ≡ bit_and (get_or words (at + k) 0) (get_or block k 0)
  word_inside k lt =
      past_first k
      ∙ get_or_append_left kept last 0 k (omega (arith, lt, length-middle_kept))
      ∙ get_or-zip2 bit_and middle block k 0 0 0 (omega (arith, lt, length-middle)) (omega (arith, lt, eight))
      ∙ ap (λ n. bit_and n (get_or block k 0)) (get_or-take 8 (drop at words) k 0 lt ∙ get_or-drop at words k 0)

  pub word_above : (k : ℕ) → at + 8 ≤ k → get_or (block_kept words at block) k 0 ≡ get_or words k 0
  word_above k le =
      let there : k ≡ at + (k - at) = omega (arith, le) in
      let place : k - at - length kept ≡ k - at - 8 = omega (arith, length-middle_kept) in
      let whole : at + 8 + (k - at - 8) ≡ k = omega (arith, le) in
      ap (λ n. get_or (block_kept words at block) n 0) there ∙ past_first (k - at)
      ∙ get_or-append_right kept last (k - at) 0 (omega (arith, le, length-middle_kept))
      ∙ ap (λ n. get_or last n 0) place ∙ get_or-drop (at + 8) words (k - at - 8) 0 ∙ ap (λ n. get_or words n 0) whole

  -- words that are these at each index
  pub is_kept : (new : List ℕ) → length new ≡ length words → ((k : ℕ) → k < at → get_or new k 0 ≡ get_or words k 0)
      → ((k : ℕ) → k < 8 → get_or new (at + k) 0 ≡ bit_and (get_or words (at + k) 0) (get_or block k 0)) → ((k : ℕ) → at + 8 ≤ k → get_or new k 0 ≡ get_or words k 0)
      → new ≡ block_kept words at block
  is_kept new long below inside above = ext_get_or 0 new (block_kept words at block) (long ∙ sym length-kept) (λ k lt. elim (cases_lt k at) [
    | inl before ↦ below k before ∙ sym (word_below k before)
    | inr from ↦ elim (cases_lt k (at + 8)) [
      | inr past ↦ above k past ∙ sym (word_above k past)
      | inl within ↦
          let there : k ≡ at + (k - at) = omega (arith, from) in
          let small : k - at < 8 = omega (arith, from, within) in
          ap (λ n. get_or new n 0) there ∙ inside (k - at) small ∙ sym (ap (λ n. get_or (block_kept words at block) n 0) there ∙ word_inside (k - at) small)
    ]
  ])

  module _ (fit : (k : ℕ) → Fits w64 (get_or words k 0)) (fit_block : (k : ℕ) → k < 8 → Fits w64 (get_or block k 0)) where
    pub kept_fits : (k : ℕ) → Fits w64 (get_or (block_kept words at block) k 0)
    kept_fits k = elim (cases_lt k at) [
      | inl before ↦ subst (λ n. Fits w64 n) (sym (word_below k before)) (fit k)
      | inr from ↦ elim (cases_lt k (at + 8)) [
        | inr past ↦ subst (λ n. Fits w64 n) (sym (word_above k past)) (fit k)
        | inl within ↦
            let there : k ≡ at + (k - at) = omega (arith, from) in
            let is = ap (λ n. get_or (block_kept words at block) n 0) there ∙ word_inside (k - at) (omega (arith, from, within)) in
            record { fits = omega (arith, is, and_le_l (get_or words (at + (k - at)) 0) (get_or block (k - at) 0), (fit (at + (k - at))).fits) }
      ]
    ]

    -- the bits that are left, and those that are gone
    pub ones_kept : sum_by count_ones (block_kept words at block) + sum_by count_ones gone ≡ sum_by count_ones words
    ones_kept =
        let parts = ones_of_parts middle block (length-middle ∙ sym eight)
        (λ k lt. subst (λ n. Fits w64 n) (sym (get_or-take 8 (drop at words) k 0 (omega (arith, lt, length-middle)) ∙ get_or-drop at words k 0)) (fit (at + k)))
        (λ k lt. fit_block k (omega (arith, lt, eight))) in
        omega (
          arith,
          parts,
          sum_by-append count_ones first (kept ++ last),
          sum_by-append count_ones kept last,
          sum_by-take-drop count_ones words at,
          sum_by-take-drop count_ones (drop at words) 8,
          ap (sum_by count_ones) (drop-drop 8 at words),
        )

    -- the count that is left
    pub count_left : (count : ℕ) → count ≡ count_by (λ b. b) (bits_of words (64 * length words)) → (sum_by count_ones gone ≤ count) × (count - sum_by count_ones gone ≡ count_by (λ b. b) (bits_of (block_kept words at block) (64 * length words)))
    count_left count known =
        let before = ones_of_row words fit in
        let after = ones_of_row (block_kept words at block) kept_fits ∙ ap (λ n. count_by (λ b. b) (bits_of (block_kept words at block) (64 * n))) length-kept in
        (omega (arith, known, before, ones_kept), omega (arith, known, before, after, ones_kept))
