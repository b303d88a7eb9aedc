-- The words of a light that are left after its base words changed.
use Rattle.std.proofs.Common.{◌≡◌, ℕ, ◌/◌, ◌<◌, Bool, true, false, List, Some, None, ◌&&◌, length, get_or, refl, sym, ap, ◌∙◌, inl, inr, arith}
use Rattle.std.specs.Prelude.{Option}
use Rattle.std.proofs.lemmas.Bool.{and_parts, and_from, cases_lt, cases_eq, cases_Bool, both_ways, eq-eqb}
use Rattle.std.proofs.lemmas.List.{get_or_default, get_or_past, same_lists}
use Rattle.std.proofs.lemmas.Simd.{get_or-zip2, length-zip2}
use Rattle.std.specs.Simd.Lanes.{zip2}
use Rattle.xw_net.specs.Begin.{is_long, IsNarrowedRow}
use Rattle.xw_net.proofs.Edits.ChangedWord.{long_word}

abbrev pub common_bits : List Bool → List Bool → List Bool
common_bits bits others = zip2 (λ x y. x && y) bits others

and_none : (b : Bool) → (b && false) ≡ false
and_none true = refl
and_none false = refl

-- a row intersected with the base row
pub common_narrowed : (word : Option (ℕ × ℕ)) (word_len : ℕ) (bits base : List Bool) → length bits ≡ length base → IsNarrowedRow word word_len bits base (common_bits bits base)
common_narrowed word word_len bits base long = record {
  len = length-zip2 (λ x y. x && y) bits base long;
  from = λ k is. (and_parts (get_or bits k false) (get_or base k false) (sym (common k) ∙ is)).0;
  stays = λ k stood is. common k ∙ and_from (get_or bits k false) (get_or base k false) stood is;
  goes = λ k changed none. common k ∙ ap (λ b. get_or bits k false && b) none ∙ and_none (get_or bits k false);
} where
  common : (k : ℕ) → get_or (common_bits bits base) k false ≡ (get_or bits k false && get_or base k false)
  common k = elim (cases_lt k (length bits)) [
    | inl lt ↦ get_or-zip2 (λ x y. x && y) bits base k false false false lt (omega (arith, lt, long))
    | inr le ↦
        get_or_past (common_bits bits base) k false (omega (arith, le, length-zip2 (λ x y. x && y) bits base long))
        ∙ sym (ap (λ b. b && get_or base k false) (get_or_past bits k false le))
  ]

-- a row with one chunk intersected with that of the base row
pub chunk_narrowed : (word_len index : ℕ) (bits base bits' : List Bool) → length bits' ≡ length bits
    → ((k : ℕ) → k / 64 ≡ index / 64 → get_or bits' k false ≡ (get_or bits k false && get_or base k false))
    → ((k : ℕ) → (k / 64 ≡ index / 64 → ⊥) → get_or bits' k false ≡ get_or bits k false)
    → IsNarrowedRow (Some (word_len, index)) word_len bits base bits'
chunk_narrowed word_len index bits base bits' len inside others = record {
  len = len;
  from = λ k is. elim (cases_eq (k / 64) (index / 64)) [
    | inl here ↦ (and_parts (get_or bits k false) (get_or base k false) (sym (inside k here) ∙ is)).0
    | inr elsewhere ↦ sym (others k elsewhere) ∙ is
  ];
  stays = λ k stood is. elim (cases_eq (k / 64) (index / 64)) [
    | inl here ↦ inside k here ∙ and_from (get_or bits k false) (get_or base k false) stood is
    | inr elsewhere ↦ others k elsewhere ∙ stood
  ];
  goes = λ k changed none.
      let here : index ≡ k = ap (λ (o : Option (ℕ × ℕ)). index_in o) (changed (eq-eqb word_len word_len refl)) in
      inside k (ap (λ n. n / 64) (sym here)) ∙ ap (λ b. get_or bits k false && b) none ∙ and_none (get_or bits k false);
} where
  index_in : Option (ℕ × ℕ) → ℕ
  index_in None = 0
  index_in (Some word) = word.1

-- if each word, except perhaps the changed one, is a base word, the result is the intersection
pub narrowed_common : (word : Option (ℕ × ℕ)) (word_len : ℕ) (bits base bits' : List Bool) → length bits ≡ length base → IsNarrowedRow word word_len bits base bits'
    → ((index : ℕ) → word ≡ Some (word_len, index) → (k : ℕ) → (k ≡ index → ⊥) → get_or bits k false ≡ true → get_or base k false ≡ true)
    → bits' ≡ common_bits bits base
narrowed_common word word_len bits base bits' long is still =
    same_lists bits' (common_bits bits base) (is.len ∙ sym (length-zip2 (λ x y. x && y) bits base long)) (λ k d lt.
    get_or_default bits' k d false lt ∙ at k (omega (arith, lt, is.len))
    ∙ sym (get_or-zip2 (λ x y. x && y) bits base k false false d (omega (arith, lt, is.len)) (omega (arith, lt, is.len, long)))) where
      none_stood : (k : ℕ) → get_or bits k false ≡ false → (b : Bool) → get_or bits' k false ≡ b → b ≡ (get_or bits k false && get_or base k false)
      none_stood k none true left = absurd (both_ways (get_or bits k false) none (is.from k left))
      none_stood k none false left = sym (ap (λ b. b && get_or base k false) none)

      gone : (k : ℕ) → get_or bits k false ≡ true → get_or base k false ≡ false → is_long word word_len ≡ true → word ≡ Some (word_len, k)
      gone k stood none long =
          let found = long_word word word_len long in
          elim (cases_eq k found.0) [
            | inl same ↦ found.1 ∙ ap (λ n. Some (word_len, n)) (sym same)
            | inr apart ↦ absurd (both_ways (get_or base k false) none (still found.0 found.1 k apart stood))
          ]

      at : (k : ℕ) → k < length bits → get_or bits' k false ≡ (get_or bits k false && get_or base k false)
      at k lt = elim (cases_Bool (get_or bits k false)) [
        | inr none ↦ none_stood k none (get_or bits' k false) refl
        | inl stood ↦ elim (cases_Bool (get_or base k false)) [
          | inl base_word ↦ is.stays k stood base_word ∙ sym (and_from (get_or bits k false) (get_or base k false) stood base_word)
          | inr none ↦ is.goes k (gone k stood none) none ∙ sym (ap (λ b. get_or bits k false && b) none ∙ and_none (get_or bits k false))
        ]
      ]
