-- Two lists of words, of which only those that are marked in one or in both of their summaries matter.
use Rattle.std.proofs.Common.{◌≡◌, ℕ, ◌+◌, ◌-◌, ◌*◌, ◌<◌, ◌≤◌, Bool, true, false, not, ltb, ◌&&◌, ◌||◌, bit_and, bit_or, List, length, get_or, Option, Some, None, IfSome, refl, sym, ap, ◌∙◌, inl, inr, arith}
use Rattle.std.proofs.lemmas.Bool.{cases_lt, cases_Bool, both_ways, lt-ltb, le-ltb}
use Rattle.std.proofs.lemmas.Nat.{and_le_l, and_le_r}
use Rattle.xw_bits.specs.Bits.{has_bit, words_have}
use Rattle.xw_bits.specs.Summary.{IsSummary}
use Rattle.xw_bits.proofs.BitLemmas.{has_bit-and, has_bit-or, word_bit}
use Rattle.xw_bits.proofs.Summaries.{marked_within, both_set}

neither_set : (a b : Bool) → (a || b) ≡ false → (a ≡ false) × (b ≡ false)
neither_set true b none = absurd (both_ways true none refl)
neither_set false b none = (refl, none)

module _ (words summary other other_summary : List ℕ) (is : IsSummary words summary) (is_other : IsSummary other other_summary) where
  -- a word that one of the summaries does not mark
  pub unmarked_apart : (k : ℕ) → (words_have summary k && words_have other_summary k) ≡ false → bit_and (get_or words k 0) (get_or other k 0) ≡ 0
  unmarked_apart k none = elim (cases_Bool (words_have summary k)) [
    | inr clear ↦ omega (arith, and_le_l (get_or words k 0) (get_or other k 0), is.clear k clear)
    | inl set ↦ omega (arith, and_le_r (get_or words k 0) (get_or other k 0), is_other.clear k (ap (λ b. b && words_have other_summary k) (sym set) ∙ none))
  ]

  module _ (part k : ℕ) (lt : k < 64) where
    abbrev either : ℕ
    either = bit_or (get_or summary part 0) (get_or other_summary part 0)

    either_mark : has_bit either k ≡ (words_have summary (64 * part + k) || words_have other_summary (64 * part + k))
    either_mark =
        has_bit-or (get_or summary part 0) (get_or other_summary part 0) k
        ∙ ap (λ b. b || has_bit (get_or other_summary part 0) k) (sym (word_bit summary part k lt))
        ∙ ap (λ b. words_have summary (64 * part + k) || b) (sym (word_bit other_summary part k lt))

    -- a word that neither of the summaries marks is 0 in both lists
    pub unmarked_same : has_bit either k ≡ false → get_or words (64 * part + k) 0 ≡ get_or other (64 * part + k) 0
    unmarked_same none =
        let clear = neither_set (words_have summary (64 * part + k)) (words_have other_summary (64 * part + k)) (sym either_mark ∙ none) in
        is.clear (64 * part + k) clear.0 ∙ sym (is_other.clear (64 * part + k) clear.1)

    pub either_within : length words ≡ length other → has_bit either k ≡ true → 64 * part + k < length words
    either_within same set = elim (cases_Bool (words_have summary (64 * part + k))) [
      | inl mine ↦ marked_within words summary is (64 * part + k) mine
      | inr not_mine ↦
          let its : words_have other_summary (64 * part + k) ≡ true = ap (λ b. b || words_have other_summary (64 * part + k)) (sym not_mine) ∙ sym either_mark ∙ set in
          omega (arith, same, marked_within other other_summary is_other (64 * part + k) its)
    ]

-- the marks that two summaries and a mask have in common
masked_marks : (summary other : List ℕ) (part mask k : ℕ) → k < 64 → has_bit (bit_and (bit_and (get_or summary part 0) (get_or other part 0)) mask) k ≡ ((words_have summary (64 * part + k) && words_have other (64 * part + k)) && has_bit mask k)
masked_marks summary other part mask k lt =
    has_bit-and (bit_and (get_or summary part 0) (get_or other part 0)) mask k
    ∙ ap (λ b. b && has_bit mask k)
    (has_bit-and (get_or summary part 0) (get_or other part 0) k
    ∙ ap (λ b. b && has_bit (get_or other part 0) k) (sym (word_bit summary part k lt))
    ∙ ap (λ b. words_have summary (64 * part + k) && b) (sym (word_bit other part k lt)))

and_true : (b : Bool) → (b && true) ≡ b
and_true true = refl
and_true false = refl

-- a part of two lists of words, and a mask for the words from an index on
module _ (words summary other other_summary : List ℕ) (is : IsSummary words summary) (is_other : IsSummary other other_summary) (from part mask : ℕ)
    (is_mask : (k : ℕ) → k < 64 → has_bit mask k ≡ not (ltb (64 * part + k) from)) where
  abbrev marks : ℕ
  marks = bit_and (bit_and (get_or summary part 0) (get_or other_summary part 0)) mask

  pub marked_here : (k : ℕ) → k < 64 → has_bit marks k ≡ true → (from ≤ 64 * part + k) × (64 * part + k < length words) × (64 * part + k < length other)
  marked_here k lt marked =
      let outer = both_set (words_have summary (64 * part + k) && words_have other_summary (64 * part + k)) (has_bit mask k) (sym (masked_marks summary other_summary part mask k lt) ∙ marked) in
      let inner = both_set (words_have summary (64 * part + k)) (words_have other_summary (64 * part + k)) outer.0 in
      let after : from ≤ 64 * part + k = elim (cases_lt (64 * part + k) from) [
        | inl before ↦ absurd (both_ways (has_bit mask k) (is_mask k lt ∙ ap not (lt-ltb (64 * part + k) from before)) outer.1)
        | inr le ↦ le
      ] in
      (after, marked_within words summary is (64 * part + k) inner.0, marked_within other other_summary is_other (64 * part + k) inner.1)

  -- the words from `from` on and before `end` have no bit in common, if those with a mark have none
  pub part_apart : (end : ℕ) → ((k : ℕ) → k < 64 → 64 * part + k < end → has_bit marks k ≡ true → bit_and (get_or words (64 * part + k) 0) (get_or other (64 * part + k) 0) ≡ 0)
      → (k : ℕ) → from ≤ k → 64 * part ≤ k → k < 64 * part + 64 → k < end → bit_and (get_or words k 0) (get_or other k 0) ≡ 0
  part_apart end passed k on low high before =
      let there : 64 * part + (k - 64 * part) ≡ k = omega arith in
      let lt : k - 64 * part < 64 = omega arith in
      ap (λ n. bit_and (get_or words n 0) (get_or other n 0)) (sym there)
      ∙ elim (cases_Bool (has_bit marks (k - 64 * part))) [
        | inl marked ↦ passed (k - 64 * part) lt (omega arith) marked
        | inr clear ↦
            let both = words_have summary (64 * part + (k - 64 * part)) && words_have other_summary (64 * part + (k - 64 * part)) in
            let masked : has_bit mask (k - 64 * part) ≡ true = is_mask (k - 64 * part) lt ∙ ap not (le-ltb (64 * part + (k - 64 * part)) from (omega arith)) in
            unmarked_apart words summary other other_summary is is_other (64 * part + (k - 64 * part))
            (sym (and_true both) ∙ ap (λ b. both && b) (sym masked) ∙ sym (masked_marks summary other_summary part mask (k - 64 * part) lt) ∙ clear)
      ]

  pub passed_before : ((k : ℕ) → from ≤ k → k < 64 * part → bit_and (get_or words k 0) (get_or other k 0) ≡ 0) → (o : Option ℕ) → IfSome o (λ at. (64 * part ≤ at) × (at < 64 * part + 64) × (has_bit marks (at - 64 * part) ≡ true))
      → IfSome o (λ at. (k : ℕ) → k < 64 → 64 * part + k < at → has_bit marks k ≡ true → bit_and (get_or words (64 * part + k) 0) (get_or other (64 * part + k) 0) ≡ 0)
      → IfSome o (λ at. (k : ℕ) → from ≤ k → k < at → bit_and (get_or words k 0) (get_or other k 0) ≡ 0)
  passed_before clear None found passed = tt
  passed_before clear (Some at) found passed = λ k low before. elim (cases_lt k (64 * part)) [
    | inl earlier ↦ clear k low earlier
    | inr here ↦ part_apart at passed k low here (omega (arith, before, found.1)) before
  ]
