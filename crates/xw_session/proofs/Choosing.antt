-- The lines of choices.
use Rattle.std.proofs.Common.{◌≡◌, ℕ, Option, Some, None, zero, suc, ◌+◌, ◌-◌, ◌<◌, ◌≤◌, Bool, true, false, cond, ◌&&◌, List, [], ◌∷◌, ◌++◌, map, length, get_or, take, drop, refl, sym, ◌∙◌, ap, arith, append_assoc, append-nil, drop-cons}
use Rattle.std.specs.Prelude.{◌==◌, filter, flat_map, position, unwrap_or, Result, Err}
use Rattle.std.proofs.lemmas.List.{get_or-drop, length-drop, get_or-map}
use Rattle.xw_letters.specs.Letter.{folded}
use Rattle.xw_words.specs.declared.fault.WordFault.TheVariants as words
use Rattle.xw_words.specs.Dictionary.{Entry, known_words, index_of_word}
use Rattle.xw_words.specs.Word.{is_bad_letter}
use Rattle.xw_feas.specs.Board.{light_at, agrees}
use Rattle.xw_feas.specs.Feasible.{base_words, base_words_at}
use Rattle.xw_feas.specs.State.{State}
use Rattle.xw_search.specs.Position.{Position, position_of}
use Rattle.xw_search.specs.FeasibleWords.{is_feasible_word, feasible_words}
use Rattle.xw_search.specs.Lights.{light_count, is_entered, spelling}
use Rattle.xw_fill.specs.Words.{spellings_at, words_left, IsNextWord, HasNoMore}
use Rattle.xw_feas.specs.declared.edit.Refusal.{Refusal}
use Rattle.xw_feas.specs.declared.edit.Refusal.TheVariants as edits
use Rattle.xw_session.specs.State.{SessionState}
use Rattle.xw_session.specs.Reply.{weighed, weighed_from}
use Rattle.xw_session.specs.Choices.{known_index, spelled_index, first_index, words_from}

-- ---- the words from an index on

-- the first element that passes, and the others
rest_from : (p : List ℕ → Bool) (xs : List (List ℕ)) (k from index : ℕ) → index ≡ from + k → index < length xs → ((j : ℕ) → from ≤ j → j < index → p (get_or xs j []) ≡ false) → p (get_or xs index []) ≡ true
    → filter p (drop from xs) ≡ get_or xs index [] ∷ filter p (drop (index + 1) xs)
rest_from p xs zero from index is within none passes =
    let same : from ≡ index = omega (arith, is) in
    let one : suc index ≡ index + 1 = omega arith in
    let x = get_or xs index [] in
    ap (λ n. filter p (drop n xs)) same
    ∙ ap (filter p) (drop-cons xs index [] within)
    ∙ ap (λ b. cond b (x ∷ filter p (drop (suc index) xs)) (filter p (drop (suc index) xs))) passes
    ∙ ap (λ n. x ∷ filter p (drop n xs)) one
rest_from p xs (suc k) from index is within none passes =
    let below : from < index = omega (arith, is) in
    let x = get_or xs from [] in
    ap (filter p) (drop-cons xs from [] (omega (arith, below, within)))
    ∙ ap (λ b. cond b (x ∷ filter p (drop (suc from) xs)) (filter p (drop (suc from) xs))) (none from (omega arith) below)
    ∙ rest_from p xs k (suc from) index (omega (arith, is)) within (λ j above under. none j (omega (arith, above)) under) passes

none_pass : (p : List ℕ → Bool) (xs : List (List ℕ)) → ((k : ℕ) → k < length xs → p (get_or xs k []) ≡ false) → filter p xs ≡ []
none_pass p [] h = refl
none_pass p (x ∷ xs) h = rw (h 0 (omega arith)) (none_pass p xs (λ k below. h (suc k) (omega arith)))

pub next_left : (position : Position) (light from index : ℕ) → IsNextWord position light from index → words_left position light from ≡ get_or (spellings_at position light) index [] ∷ words_left position light (index + 1)
next_left position light from index next =
    rest_from (is_feasible_word position light) (spellings_at position light) (index - from) from index (omega (arith, next.above)) next.within next.first next.feasible

pub none_left : (position : Position) (light from : ℕ) → HasNoMore position light from → words_left position light from ≡ []
none_left position light from none =
    let sp = spellings_at position light in
    none_pass (is_feasible_word position light) (drop from sp) (λ k below. ap (is_feasible_word position light) (get_or-drop from sp k []) ∙ none (from + k) (omega arith) (omega (arith, below, length-drop from sp)))

-- ---- the words to begin with

module _ (state : State) (light : ℕ) where
  abbrev all : List (List ℕ)
  all = feasible_words (position_of state) light

  -- from an index on, or all
  pub words_from_index : (first : Option ℕ) → all ≡ words_left (position_of state) light 0 → is_entered (position_of state) light ≡ false → words_from state light first ≡ words_left (position_of state) light (unwrap_or first 0)
  words_from_index None known unentered = known
  words_from_index (Some index) known unentered = ap (λ b. cond b (feasible_words (position_of state) light) (words_left (position_of state) light index)) unentered

  -- all of a wholly entered light
  pub words_of_entered : (first : Option ℕ) → is_entered (position_of state) light ≡ true → words_from state light first ≡ words_from state light None
  words_of_entered None entered = refl
  words_of_entered (Some index) entered = ap (λ b. cond b (feasible_words (position_of state) light) (words_left (position_of state) light index)) entered

-- ---- the first words

pub take_next : (n : ℕ) (x : List ℕ) (xs : List (List ℕ)) → 0 < n → take n (x ∷ xs) ≡ x ∷ take (n - 1) xs
take_next zero x xs some = absurd (omega (arith, some))
take_next (suc n) x xs some = let back : n ≡ suc n - 1 = omega arith in ap (λ m. x ∷ take m xs) back

-- the text of one more word
pub one_more : (text : List ℕ → List ℕ) (whole sent : List ℕ) (left rest : List (List ℕ)) (word : List ℕ) → whole ≡ sent ++ flat_map text left → left ≡ word ∷ rest → whole ≡ (sent ++ text word) ++ flat_map text rest
one_more text whole sent left rest word w l = w ∙ ap (λ words. sent ++ flat_map text words) l ∙ sym (append_assoc sent (text word) (flat_map text rest))

-- no more words
pub no_more : (text : List ℕ → List ℕ) (whole sent : List ℕ) (left : List (List ℕ)) → whole ≡ sent ++ flat_map text left → left ≡ [] → whole ≡ sent
no_more text whole sent left w l = w ∙ ap (λ words. sent ++ flat_map text words) l ∙ append-nil sent

pub take_none : (n : ℕ) (xs : List (List ℕ)) → xs ≡ [] → take n xs ≡ []
take_none zero xs e = refl
take_none (suc n) xs e = ap (take (suc n)) e

-- ---- the word of a wholly entered light

pub one_word : (position : Position) (light : ℕ) → light < light_count position → is_entered position light ≡ true → 0 < length (feasible_words position light) → feasible_words position light ≡ spelling position light ∷ []
unfolding feasible_words
one_word position light below entered some =
    let test = is_feasible_word position light in
    let word = spelling position light in
    let base : base_words_at position.board position.words light ≡ word ∷ [] =
    get_or-map (base_words position.board position.words) position.board.lights light [] [] below ∙ ap (λ b. cond b (word ∷ []) (map (λ (entry : Entry). entry.word) (filter (λ (entry : Entry). entry.active && agrees position.board (light_at position.board light) entry.word) (known_words position.words (length (light_at position.board light)))))) entered in
    ap (filter test) base ∙ by_test (test word) (omega (arith, some, ap (λ words. length (filter test words)) base)) where
      by_test : (b : Bool) → 0 < length (cond b (spelling position light ∷ []) []) → cond b (spelling position light ∷ []) [] ≡ spelling position light ∷ []
      by_test true h = refl
      by_test false h = absurd (omega (arith, h))

-- ---- the index of the word to begin with

module _ (state : State) (light : ℕ) (bytes : List ℕ) where
  pub with_bad_letter : (at : ℕ) → position is_bad_letter bytes ≡ Some at → Err (edits.Word (words.BadLetter (at + 1))) ≡ first_index state light (Some bytes)
  with_bad_letter at e = sym (ap (λ bad. spelled_index state light bad bytes) e)

  pub of_other_length : position is_bad_letter bytes ≡ None → (length bytes == length (light_at (position_of state).board light)) ≡ false → Err edits.PlaceLength ≡ first_index state light (Some bytes)
  of_other_length letters other =
      sym (ap (λ bad. spelled_index state light bad bytes) letters ∙ ap (λ b. cond b (known_index (index_of_word state.words (map folded bytes))) (Err edits.PlaceLength)) other)

  pub of_this_length : position is_bad_letter bytes ≡ None → (length bytes == length (light_at (position_of state).board light)) ≡ true → (found : Option ℕ) → found ≡ index_of_word state.words (map folded bytes) → known_index found ≡ first_index state light (Some bytes)
  of_this_length letters same found e =
      ap known_index e ∙ sym (ap (λ bad. spelled_index state light bad bytes) letters ∙ ap (λ b. cond b (known_index (index_of_word state.words (map folded bytes))) (Err edits.PlaceLength)) same)

-- the reply, by the light and the index
pub weighed_by : (state : SessionState) (light most : ℕ) (first : Option (List ℕ)) (found : Option ℕ) (from : Result (Option ℕ) Refusal) → found ≡ Some light → from ≡ first_index state.engine light first → weighed state found most first ≡ weighed_from state light most from
weighed_by state light most first found from is e = ap (λ f. weighed state f most first) is ∙ ap (weighed_from state light most) (sym e)
