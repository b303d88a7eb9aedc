-- Lemmas on suggestions.
use Rattle.std.proofs.Common.{◌≡◌, ℕ, ◌+◌, ◌<◌, true, false, [], get_or, Some, None, subst, arith, inl, inr}
use Rattle.std.specs.Prelude.{is_none}
use Rattle.std.proofs.lemmas.Bool.{and_left, and_right, and_from, cases_lt}
use Rattle.xw_search.specs.Position.{Position, placed}
use Rattle.xw_fill.specs.Words.{spellings_at, IsNextWord, HasNoMore}
use Rattle.xw_search.proofs.BelowLemmas.{position-here, position-none}
use Rattle.xw_fill.specs.Suggesting.{can_be_tried, first_blocked, index_to_try}

-- no word before the next feasible word can be tried
pub none_before : (state : Position) (light from index : ℕ) → ((k : ℕ) → k < from → can_be_tried state light (get_or (spellings_at state light) k []) ≡ false) → IsNextWord state light from index → (k : ℕ) → k < index → can_be_tried state light (get_or (spellings_at state light) k []) ≡ false
none_before state light from index failed next k below =
    elim (cases_lt k from) [
      | inl before ↦ failed k before
      | inr above ↦ and_left _ _ (next.first k above below)
    ]

pub index_to_try-here : (state : Position) (light from index : ℕ) → ((k : ℕ) → k < from → can_be_tried state light (get_or (spellings_at state light) k []) ≡ false) → IsNextWord state light from index → is_none (first_blocked (placed state light (get_or (spellings_at state light) index []))) ≡ true → index_to_try state light ≡ Some index
index_to_try-here state light from index failed next safe =
    position-here (can_be_tried state light) (spellings_at state light) index [] next.within (none_before state light from index failed next) (and_from _ _ next.feasible safe)

pub index_to_try-none : (state : Position) (light from : ℕ) → ((k : ℕ) → k < from → can_be_tried state light (get_or (spellings_at state light) k []) ≡ false) → HasNoMore state light from → index_to_try state light ≡ None
index_to_try-none state light from failed none =
    position-none (can_be_tried state light) (spellings_at state light) [] (λ k below. elim (cases_lt k from) [
      | inl before ↦ failed k before
      | inr above ↦ and_left _ _ (none k above below)
    ])

pub none_past : (state : Position) (light from index : ℕ) → ((k : ℕ) → k < from → can_be_tried state light (get_or (spellings_at state light) k []) ≡ false) → IsNextWord state light from index → is_none (first_blocked (placed state light (get_or (spellings_at state light) index []))) ≡ false → (k : ℕ) → k < index + 1 → can_be_tried state light (get_or (spellings_at state light) k []) ≡ false
none_past state light from index failed next blocked k below =
    elim (cases_lt k index) [
      | inl before ↦ none_before state light from index failed next k before
      | inr above ↦ let here : index ≡ k = omega arith in subst (λ j. can_be_tried state light (get_or (spellings_at state light) j []) ≡ false) here (and_right _ _ blocked)
    ]
