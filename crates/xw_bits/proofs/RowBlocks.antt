-- A row after one block was intersected with another, and a cleared row.
use Rattle.std.proofs.Common.{◌≡◌, ℕ, ◌+◌, ◌-◌, ◌*◌, ◌/◌, ◌%◌, ◌<◌, ◌≤◌, false, not, ◌&&◌, map, List, length, get_or, bit_and, sym, ap, ◌∙◌, inl, inr, arith, Fits, w64}
use Rattle.std.specs.Prelude.{replicate}
use Rattle.std.specs.Int.{bit_not}
use Rattle.std.specs.Simd.Lanes.{Each1}
use Rattle.std.proofs.lemmas.Bool.{cases_lt}
use Rattle.std.proofs.lemmas.Nat.{and_le_l}
use Rattle.std.proofs.lemmas.List.{get_or_past, get_or_default, get_or-replicate, length-replicate, length-map}
use Rattle.std.proofs.lemmas.Simd.{Each1-get_or}
use Rattle.std.proofs.Math.ListN.{get_or-map}
use Rattle.xw_bits.specs.Bits.{has_bit, words_have, bits_of}
use Rattle.xw_bits.proofs.BitLemmas.{length-bits_of, get_or-bits_of, has_bit-and, has_bit-none, has_bit-not}

-- the bits of words that have no bit set past the row's end
pub row_bit : (words : List ℕ) (len i : ℕ) → ((k : ℕ) → len ≤ k → words_have words k ≡ false) → get_or (bits_of words len) i false ≡ words_have words i
row_bit words len i none = elim (cases_lt i len) [
  | inl lt ↦ get_or-bits_of words len i false lt
  | inr le ↦ get_or_past (bits_of words len) i false (omega (arith, length-bits_of words len)) ∙ sym (none i le)
]

pub zeros_have : (n i : ℕ) → words_have (replicate n 0) i ≡ false
unfolding words_have
zeros_have n i = ap (λ w. has_bit w (i % 64)) (elim (cases_lt (i / 64) n) [
  | inl lt ↦ get_or-replicate n (i / 64) 0 0 lt
  | inr le ↦ get_or_past (replicate n 0) (i / 64) 0 (omega (arith, length-replicate {A = ℕ} n 0))
]) ∙ has_bit-none (i % 64)

module _ (words new block : List ℕ) (at : ℕ) (below : (k : ℕ) → k < at → get_or new k 0 ≡ get_or words k 0)
    (inside : (k : ℕ) → k < 8 → get_or new (at + k) 0 ≡ bit_and (get_or words (at + k) 0) (get_or block k 0)) (above : (k : ℕ) → at + 8 ≤ k → get_or new k 0 ≡ get_or words k 0) where
  pub block_below : (i : ℕ) → i < 64 * at → words_have new i ≡ words_have words i
  unfolding words_have
  block_below i lt = ap (λ w. has_bit w (i % 64)) (below (i / 64) (omega arith))

  pub block_above : (i : ℕ) → 64 * at + 512 ≤ i → words_have new i ≡ words_have words i
  unfolding words_have
  block_above i le = ap (λ w. has_bit w (i % 64)) (above (i / 64) (omega arith))

  block_bit : (i chunk : ℕ) → i / 64 ≡ at + chunk → chunk < 8 → words_have new i ≡ (words_have words i && has_bit (get_or block chunk 0) (i % 64))
  unfolding words_have
  block_bit i chunk there lt =
      ap (λ n. has_bit (get_or new n 0) (i % 64)) there
      ∙ ap (λ w. has_bit w (i % 64)) (inside chunk lt)
      ∙ has_bit-and (get_or words (at + chunk) 0) (get_or block chunk 0) (i % 64)
      ∙ ap (λ n. has_bit (get_or words n 0) (i % 64) && has_bit (get_or block chunk 0) (i % 64)) (sym there)

  pub block_inside : (chunk k : ℕ) → chunk < 8 → k < 64 → words_have new (64 * (at + chunk) + k) ≡ (words_have words (64 * (at + chunk) + k) && has_bit (get_or block chunk 0) k)
  block_inside chunk k in_block lt =
      let is : (64 * (at + chunk) + k) % 64 ≡ k = omega arith in
      block_bit (64 * (at + chunk) + k) chunk (omega arith) in_block
      ∙ ap (λ n. words_have words (64 * (at + chunk) + k) && has_bit (get_or block chunk 0) n) is

  -- a word that is 0 stays 0
  pub block_zero : (k : ℕ) → get_or words k 0 ≡ 0 → get_or new k 0 ≡ 0
  block_zero k zero = elim (cases_lt k at) [
    | inl lt ↦ below k lt ∙ zero
    | inr from ↦ elim (cases_lt k (at + 8)) [
      | inr past ↦ above k past ∙ zero
      | inl lt ↦
          let there : k ≡ at + (k - at) = omega (arith, from) in
          ap (λ n. get_or new n 0) there ∙ inside (k - at) (omega (arith, lt, from))
          ∙ omega (arith, and_le_l (get_or words (at + (k - at)) 0) (get_or block (k - at) 0), zero, ap (λ n. get_or words n 0) there)
    ]
  ]

  -- no bit becomes set
  pub block_none : (i : ℕ) → words_have words i ≡ false → words_have new i ≡ false
  block_none i none = elim (cases_lt i (64 * at)) [
    | inl lt ↦ block_below i lt ∙ none
    | inr from ↦ elim (cases_lt i (64 * at + 512)) [
      | inr past ↦ block_above i past ∙ none
      | inl lt ↦
          let there : i / 64 ≡ at + (i / 64 - at) = omega (arith, from) in
          block_bit i (i / 64 - at) there (omega (arith, lt, from)) ∙ ap (λ b. b && has_bit (get_or block (i / 64 - at) 0) (i % 64)) none
    ]
  ]

pub block_not : (words : List ℕ) (chunk k : ℕ) → length words ≡ 8 → Each1 (Fits w64) words → chunk < 8 → k < 64 → has_bit (get_or (map (bit_not w64) words) chunk 0) k ≡ not (has_bit (get_or words chunk 0) k)
block_not words chunk k eight fit in_words lt =
    let within : chunk < length words = omega (arith, eight) in
    ap (λ w. has_bit w k) (get_or_default (map (bit_not w64) words) chunk 0 (bit_not w64 0) (omega (arith, eight, length-map words (bit_not w64))) ∙ get_or-map (bit_not w64) words chunk 0)
    ∙ has_bit-not (get_or words chunk 0) k (Each1-get_or (Fits w64) words chunk 0 within fit).fits lt
