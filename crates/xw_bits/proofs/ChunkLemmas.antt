-- Chunks that have a set bit, and chunks in which two rows have a set bit in common.
use Rattle.std.proofs.Common.{◌≡◌, ℕ, ◌+◌, ◌*◌, ◌/◌, ◌%◌, ◌^◌, ◌<◌, ◌≤◌, ◌-◌, Bool, true, false, ◌&&◌, eqb, get_or, ap, sym, ◌∙◌, w64, bit_and, arith}
use Rattle.std.specs.Int.{bit_at, trailing_zeros}
use Rattle.std.proofs.lemmas.Bool.{eq-eqb}
use Rattle.std.proofs.lemmas.Nat.Bits.{bit_at-trailing_zeros}
use Rattle.xw_bits.specs.Bits.{RowOfBits, has_bit, words_have}
use Rattle.xw_bits.specs.BitRow.{row_of, IsBitRow}
use Rattle.xw_bits.specs.declared.bit_row.BitRow.TheInside.{Inside}
use Rattle.xw_bits.proofs.BitRowLemmas.{bit_is}
use Rattle.xw_bits.proofs.BitLemmas.{has_bit-and, has_bit-none}

module _ (r : Inside) {v : RowOfBits} (is : row_of r ≡ v) (inv : IsBitRow r) where
  -- a bit of a chunk is a bit of a word
  pub chunk_bit : (chunk k : ℕ) → k < 64 → get_or v.bits (64 * chunk + k) false ≡ has_bit (get_or r.words.items chunk 0) k
  unfolding words_have
  chunk_bit chunk k lt =
      let at : (64 * chunk + k) / 64 ≡ chunk = omega arith in
      let bit : (64 * chunk + k) % 64 ≡ k = omega arith in
      bit_is r is inv (64 * chunk + k) ∙ ap (λ n. has_bit (get_or r.words.items n 0) ((64 * chunk + k) % 64)) at ∙ ap (has_bit (get_or r.words.items chunk 0)) bit

-- ---- a test of 64 indices at a time

module _ (f : ℕ → Bool) (chunk word : ℕ) (bits : (k : ℕ) → k < 64 → has_bit word k ≡ f (64 * chunk + k)) where
  at_index : (i : ℕ) → 64 * chunk ≤ i → i < 64 * chunk + 64 → f i ≡ has_bit word (i - 64 * chunk)
  at_index i low high =
      let is : i ≡ 64 * chunk + (i - 64 * chunk) = omega arith in
      ap f is ∙ sym (bits (i - 64 * chunk) (omega arith))

  -- no bit is set
  pub none_in_chunk : word ≡ 0 → (i : ℕ) → 64 * chunk ≤ i → i < 64 * chunk + 64 → f i ≡ false
  none_in_chunk zero_word i low high =
      at_index i low high ∙ ap (λ w. has_bit w (i - 64 * chunk)) zero_word ∙ has_bit-none (i - 64 * chunk)

  -- the lowest set bit
  pub lowest_passes : 0 < word → word < 2 ^ 64 → f (64 * chunk + trailing_zeros w64 word) ≡ true
  unfolding has_bit
  lowest_passes some fits =
      let found = bit_at-trailing_zeros w64 word some fits in
      sym (bits (trailing_zeros w64 word) found.0) ∙ eq-eqb (bit_at word (trailing_zeros w64 word)) 1 found.1

  pub none_below_lowest : 0 < word → word < 2 ^ 64 → (i : ℕ) → 64 * chunk ≤ i → i < 64 * chunk + trailing_zeros w64 word → f i ≡ false
  unfolding has_bit
  none_below_lowest some fits i low high =
      let found = bit_at-trailing_zeros w64 word some fits in
      at_index i low (omega (arith, found.0)) ∙ ap (λ x. eqb x 1) (found.2 (i - 64 * chunk) (omega arith))

-- ---- two rows

module _ (r s : Inside) {v w : RowOfBits} (is : row_of r ≡ v) (is_other : row_of s ≡ w) (inv : IsBitRow r) (inv_other : IsBitRow s) where
  abbrev both : ℕ → Bool
  both i = get_or v.bits i false && get_or w.bits i false

  -- the bits that two rows have in common in a chunk, as the conjunction of their words
  pub common_bits : (chunk one two k : ℕ) → one ≡ get_or r.words.items chunk 0 → two ≡ get_or s.words.items chunk 0 → k < 64 → has_bit (bit_and one two) k ≡ (get_or v.bits (64 * chunk + k) false && get_or w.bits (64 * chunk + k) false)
  common_bits chunk one two k one_is two_is lt =
      has_bit-and one two k
      ∙ ap (λ t. t && has_bit two k) (ap (λ n. has_bit n k) one_is ∙ sym (chunk_bit r is inv chunk k lt))
      ∙ ap (λ t. get_or v.bits (64 * chunk + k) false && t) (ap (λ n. has_bit n k) two_is ∙ sym (chunk_bit s is_other inv_other chunk k lt))

  -- an index in a chunk where the rows have no bit in common
  pub apart_bit : (i one two : ℕ) → one ≡ get_or r.words.items (i / 64) 0 → two ≡ get_or s.words.items (i / 64) 0 → bit_and one two ≡ 0 → (get_or v.bits i false && get_or w.bits i false) ≡ false
  apart_bit i one two one_is two_is none =
      none_in_chunk both (i / 64) (bit_and one two) (λ k lt. common_bits (i / 64) one two k one_is two_is lt) none i (omega arith) (omega arith)
