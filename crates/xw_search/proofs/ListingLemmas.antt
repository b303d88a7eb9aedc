-- Lemmas on active words and on lists of lights.
use Rattle.std.proofs.Common.{◌≡◌, ℕ, ◌+◌, ◌-◌, ◌<◌, ◌≤◌, Bool, true, false, cond, ◌&&◌, List, [], ◌∷◌, ◌++◌, map, length, get_or, take, drop, Some, None, refl, sym, ◌∙◌, ap, arith, inl, inr, set, append-nil, add-one}
use Rattle.std.specs.Prelude.{nat_lt, position, bytes_eq, unwrap_or}
use Rattle.std.specs.List.{position_or_len}
use Rattle.std.proofs.lemmas.Bool.{cases_Bool, and_parts, and_from, false≢true, ltb-false, false_from_ne_true}
use Rattle.std.proofs.lemmas.List.{get_or-map, get_or-drop, length-map, length-drop, take_more, append-nil, map-append, get_or_default, take_more_set}
use Rattle.std.proofs.lemmas.List.Quantifiers.{position-Some}
use Rattle.std.proofs.lemmas.List.Sums.{fails_before_first}
use Rattle.xw_feas.specs.Board.{spelled, Board, entry}
use Rattle.xw_words.specs.Dictionary.{Entry, no_entry, known_words, Dictionary, index_of_word}
use Rattle.xw_feas.specs.Known.{spellings}
use Rattle.xw_search.proofs.Shaped.{HasDistinctWords}
use Rattle.xw_search.specs.Position.{Position}
use Rattle.xw_search.proofs.BelowLemmas.{Among-contained, Contains-among, list_any-from, list_any-gives}
use Rattle.std.proofs.lemmas.Slice.Eq.{bytes_eq-Decides}
use Rattle.xw_search.specs.Below.{those_below}
use Rattle.xw_search.specs.Listing.{is_listed}

-- ---- lists and indices

pub no_index : {X : Type 0} (p : X → Bool) (xs : List X) (d : X) (from : ℕ) → position p (drop from xs) ≡ None → (k : ℕ) → from ≤ k → k < length xs → p (get_or xs k d) ≡ false
no_index p xs d from h k above below =
    let back : from + (k - from) ≡ k = omega arith in
    let long : length (drop from xs) ≡ length xs - from = length-drop from xs in
    let over = split (nat_lt (position_or_len p (drop from xs)) (length (drop from xs))) refl h in
    ap (λ i. p (get_or xs i d)) (sym back) ∙ ap p (sym (get_or-drop from xs (k - from) d)) ∙ fails_before_first p (drop from xs) (k - from) d (omega arith) where
      split : (b : Bool) → nat_lt (position_or_len p (drop from xs)) (length (drop from xs)) ≡ b → cond b (Some (position_or_len p (drop from xs))) None ≡ None → length (drop from xs) ≤ position_or_len p (drop from xs)
      split true e g = cc
      split false e g = ltb-false (position_or_len p (drop from xs)) (length (drop from xs)) e

-- the index of an active word with this spelling
listed_at : (state : Position) (word : List ℕ) → is_listed state word ≡ true → (k : ℕ) × (k < length (known_words state.words (length word))) × ((get_or (known_words state.words (length word)) k no_entry).active ≡ true) × ((get_or (known_words state.words (length word)) k no_entry).word ≡ word)
listed_at state word h =
    let known = known_words state.words (length word) in
    let found = list_any-gives (λ (w : Entry). w.active && bytes_eq w.word word) known h in
    let parts = and_parts found.0.active (bytes_eq found.0.word word) found.2 in
    let at = Contains-among found.0 known found.1 in
    let is : get_or known at.0 no_entry ≡ found.0 = get_or_default known at.0 no_entry found.0 at.1 ∙ at.2 in
    (at.0, at.1, ap (λ (w : Entry). w.active) is ∙ parts.0, ap (λ (w : Entry). w.word) is ∙ (bytes_eq-Decides found.0.word word).0 parts.1)

spelling_at : (dictionary : Dictionary) (len k : ℕ) → k < length (known_words dictionary len) → get_or (spellings dictionary len) k [] ≡ (get_or (known_words dictionary len) k no_entry).word
spelling_at dictionary len k below = get_or-map (λ (w : Entry). w.word) (known_words dictionary len) k no_entry [] below

pub listed-none : (state : Position) (word : List ℕ) → index_of_word state.words word ≡ None → is_listed state word ≡ false
listed-none state word h = false_from_ne_true _ (λ listed.
    let at = listed_at state word listed in
    false≢true (sym (no_index (λ (w : Entry). bytes_eq w.word word) (known_words state.words (length word)) no_entry 0 h at.0 (omega arith) at.1) ∙ (bytes_eq-Decides _ word).1 at.3))

pub listed-some : (state : Position) (word : List ℕ) (index : ℕ) → HasDistinctWords state.words → index_of_word state.words word ≡ Some index → is_listed state word ≡ (get_or (known_words state.words (length word)) index no_entry).active
listed-some state word index dictionary h =
    let known = known_words state.words (length word) in
    let found = position-Some (λ (w : Entry). bytes_eq w.word word) known index no_entry h in
    let long = length-map known (λ (w : Entry). w.word) in
    let same : (get_or known index no_entry).word ≡ word = (bytes_eq-Decides _ word).0 found.1 in
    elim (cases_Bool (get_or known index no_entry).active) [
      | inl standing ↦
          list_any-from (λ (w : Entry). w.active && bytes_eq w.word word) known (get_or known index no_entry) (Among-contained _ known (index, found.0, get_or_default known index _ no_entry found.0)) (and_from _ _ standing found.1)
          ∙ sym standing
      | inr struck ↦
          false_from_ne_true _ (λ listed.
          let at = listed_at state word listed in
          let here : at.0 ≡ index = dictionary.distinct (length word) at.0 index (omega (arith, long, at.1)) (omega (arith, long, found.0)) (spelling_at state.words (length word) at.0 at.1 ∙ at.3 ∙ sym same ∙ sym (spelling_at state.words (length word) index found.0)) in
          false≢true (sym struck ∙ ap (λ j. (get_or known j no_entry).active) (sym here) ∙ at.2))
          ∙ sym struck
    ]

-- the list after one more light that passes
pub named-more : {X : Type 0} (name : ℕ → X) (test : ℕ → Bool) (n : ℕ) → test n ≡ true → map name (those_below test (n + 1)) ≡ map name (those_below test n) ++ name n ∷ []
named-more name test n passes = rw (add-one, passes) (map-append name (those_below test n) (n ∷ []))

-- the list after one more light that fails
pub named-same : {X : Type 0} (name : ℕ → X) (test : ℕ → Bool) (n : ℕ) → test n ≡ false → map name (those_below test (n + 1)) ≡ map name (those_below test n)
named-same name test n fails = rw (add-one, fails) (ap (map name) (append-nil (those_below test n)))

-- the letters of a light after one more cell
pub spelled-more : (board : Board) (cells letters : List ℕ) (k letter : ℕ) → k < length cells → k < length letters → letter ≡ unwrap_or (entry board (get_or cells k 0)) 65 → take k letters ≡ take k (spelled board cells) → take (k + 1) (set letters k letter) ≡ take (k + 1) (spelled board cells)
spelled-more board cells letters k letter below within is so_far =
    let long : length (spelled board cells) ≡ length cells = length-map cells (λ cell. unwrap_or (entry board cell) 65) in
    take_more_set letters k letter within
    ∙ ap (λ ls. ls ++ letter ∷ []) so_far
    ∙ ap (λ l. take k (spelled board cells) ++ l ∷ []) (is ∙ sym (get_or-map (λ cell. unwrap_or (entry board cell) 65) cells k 0 0 below))
    ∙ sym (take_more (spelled board cells) k 0 (omega arith))
