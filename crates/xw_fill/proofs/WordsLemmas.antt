-- The feasible words of a light, by their indices in the dictionary.
use Rattle.std.proofs.Common.{◌≡◌, ℕ, zero, suc, ◌+◌, ◌-◌, ◌<◌, ◌≤◌, Bool, true, false, cond, ◌&&◌, List, [], ◌∷◌, ◌++◌, map, length, get_or, take, drop, Option, Some, None, refl, sym, ◌∙◌, ap, subst, arith, add-zero, append_assoc, inl, inr}
use Rattle.std.specs.Prelude.{filter, Contains, position, option_map}
use Rattle.std.proofs.lemmas.Bool.{and_right, cases_Bool, and_parts, and_from, false≢true}
use Rattle.std.proofs.lemmas.List.{get_or-map, get_or-drop, length-map, length-drop, take_more, take-append-drop, append-nil}
use Rattle.std.proofs.lemmas.List.Elements.{filter-append}
use Rattle.std.proofs.lemmas.List.Quantifiers.{position-Some}
use Rattle.xw_feas.specs.Board.{light_at, agrees, spelled}
use Rattle.xw_words.specs.Dictionary.{Entry, no_entry, known_words}
use Rattle.xw_feas.specs.Known.{spellings}
use Rattle.xw_feas.specs.Feasible.{Answers, AreAnswers, base_words, base_words_at}
use Rattle.xw_feas.specs.Queries.{next_found, is_active_answer}
use Rattle.xw_fill.specs.Words.{spellings_at, words_before, words_left, IsNextWord, HasNoMore}
use Rattle.xw_search.proofs.Shaped.{HasDistinctWords}
use Rattle.xw_search.specs.Position.{Position}
use Rattle.xw_feas.specs.declared.edit.Found.TheVariants.{Listed, Entered}
use Rattle.xw_search.specs.FeasibleWords.{is_feasible_word, feasible_words}
use Rattle.xw_search.specs.Lights.{light_count, is_entered}
use Rattle.xw_search.proofs.BelowLemmas.{Among-contained}
use Rattle.xw_search.proofs.FeasibleWordsLemmas.{is_feasible_word-gives, answers_word-is}
use Rattle.xw_search.proofs.PlacingLemmas.{agrees-length}
use Rattle.xw_search.proofs.LightLemmas.{open_base}
use Rattle.xw_search.proofs.ListingLemmas.{no_index}

-- if every word that passes is also picked, picking first changes nothing
filter_picked : (test : List ℕ → Bool) (pick : Entry → Bool) (words : List Entry) → ((k : ℕ) → k < length words → test (get_or words k no_entry).word ≡ true → pick (get_or words k no_entry) ≡ true) → filter test (map (λ (word : Entry). word.word) (filter pick words)) ≡ filter test (map (λ (word : Entry). word.word) words)
filter_picked test pick [] h = refl
filter_picked test pick (word ∷ words) h = split (filter_picked test pick words (λ k below. h (suc k) (omega arith))) (pick word) refl (test word.word) refl where
  split : filter test (map (λ (w : Entry). w.word) (filter pick words)) ≡ filter test (map (λ (w : Entry). w.word) words) → (b : Bool) → pick word ≡ b → (t : Bool) → test word.word ≡ t
      → filter test (map (λ (w : Entry). w.word) (cond b (word ∷ filter pick words) (filter pick words))) ≡ cond t (word.word ∷ filter test (map (λ (w : Entry). w.word) words)) (filter test (map (λ (w : Entry). w.word) words))
  split rest true picked true passes = rw passes (ap (λ ws. word.word ∷ ws) rest)
  split rest true picked false fails = rw fails rest
  split rest false missed true passes = absurd (false≢true (sym missed ∙ h 0 (omega arith) passes))
  split rest false missed false fails = rest

-- a known word that is feasible is active and agrees with the entries
feasible_known : (position : Position) (light k : ℕ) → HasDistinctWords position.words → light < light_count position → is_entered position light ≡ false → k < length (known_words position.words (length (light_at position.board light)))
    → is_feasible_word position light (get_or (known_words position.words (length (light_at position.board light))) k no_entry).word ≡ true
    → ((get_or (known_words position.words (length (light_at position.board light))) k no_entry).active && agrees position.board (light_at position.board light) (get_or (known_words position.words (length (light_at position.board light))) k no_entry).word) ≡ true
feasible_known position light k dictionary in_grid not_entered below h =
    let cells = light_at position.board light in
    let known = known_words position.words (length cells) in
    let word = (get_or known k no_entry).word in
    let feasible = is_feasible_word-gives position light word h in
    let base = open_base position.board position.words light word in_grid not_entered (Among-contained word (base_words_at position.board position.words light) (feasible.1.words_are_base light word feasible.2)) in
    let fits : agrees position.board cells word ≡ true = base.1 in
    let one : Entry = base.0.0 in
    let active : Contains known one = subst (λ n. Contains (known_words position.words n) one) (agrees-length position.board cells word fits) base.0.1.0 in
    let spelled_at : (j : ℕ) → j < length known → get_or (spellings position.words (length cells)) j [] ≡ (get_or known j no_entry).word = λ j under. get_or-map (λ (w : Entry). w.word) known j no_entry [] under in
    let long : length (spellings position.words (length cells)) ≡ length known = length-map known (λ (w : Entry). w.word) in
    let same_default : get_or known active.0 no_entry ≡ one = at_default known active.0 no_entry one active.1 ∙ active.2 in
    let same : active.0 ≡ k = dictionary.distinct (length cells) active.0 k (rw long active.1) (rw long below) (spelled_at active.0 active.1 ∙ ap (λ (w : Entry). w.word) same_default ∙ base.0.1.1 ∙ sym (spelled_at k below)) in
    let is : get_or known k no_entry ≡ one = ap (λ j. get_or known j no_entry) (sym same) ∙ same_default in
    and_from _ _ (ap (λ (w : Entry). w.active) is ∙ base.0.1.2) fits where
      at_default : (xs : List Entry) (i : ℕ) (d e : Entry) → i < length xs → get_or xs i d ≡ get_or xs i e
      at_default [] i d e under = absurd (omega arith)
      at_default (x ∷ xs) zero d e under = refl
      at_default (x ∷ xs) (suc i) d e under = at_default xs i d e (omega arith)

-- the feasible words of a light that is not wholly entered are the known words that are feasible
pub feasible_known_words : (position : Position) (light : ℕ) → HasDistinctWords position.words → light < light_count position → is_entered position light ≡ false → feasible_words position light ≡ filter (is_feasible_word position light) (spellings_at position light)
unfolding feasible_words
feasible_known_words position light dictionary in_grid not_entered =
    let cells = light_at position.board light in
    let known = known_words position.words (length cells) in
    let pick : Entry → Bool = λ w. w.active && agrees position.board cells w.word in
    let here : base_words_at position.board position.words light ≡ map (λ (w : Entry). w.word) (filter pick known) = get_or-map (base_words position.board position.words) position.board.lights light [] [] in_grid ∙ ap (λ b. cond b (spelled position.board cells ∷ []) (map (λ (w : Entry). w.word) (filter pick known))) not_entered in
    ap (filter (is_feasible_word position light)) here
    ∙ filter_picked (is_feasible_word position light) pick known (λ k below. feasible_known position light k dictionary in_grid not_entered below)

-- ---- lists and indices

filter-none : {X : Type 0} (p : X → Bool) (xs : List X) (d : X) → ((k : ℕ) → k < length xs → p (get_or xs k d) ≡ false) → filter p xs ≡ []
filter-none p [] d h = refl
filter-none p (x ∷ xs) d h = rw (h 0 (omega arith)) (filter-none p xs d (λ k below. h (suc k) (omega arith)))

filter-take_more : {X : Type 0} (p : X → Bool) (xs : List X) (i : ℕ) (d : X) → i < length xs → filter p (take (i + 1) xs) ≡ filter p (take i xs) ++ filter p (get_or xs i d ∷ [])
filter-take_more p xs i d below = ap (filter p) (take_more xs i d below) ∙ filter-append p (take i xs) (get_or xs i d ∷ [])

filter-pass : {X : Type 0} (p : X → Bool) (xs : List X) (i : ℕ) (d : X) → i < length xs → p (get_or xs i d) ≡ true → filter p (take (i + 1) xs) ≡ filter p (take i xs) ++ get_or xs i d ∷ []
filter-pass p xs i d below passes = filter-take_more p xs i d below ∙ ap (λ b. filter p (take i xs) ++ cond b (get_or xs i d ∷ []) []) passes

filter-skip : {X : Type 0} (p : X → Bool) (xs : List X) (i : ℕ) (d : X) → i < length xs → p (get_or xs i d) ≡ false → filter p (take (i + 1) xs) ≡ filter p (take i xs)
filter-skip p xs i d below fails = filter-take_more p xs i d below ∙ ap (λ b. filter p (take i xs) ++ cond b (get_or xs i d ∷ []) []) fails ∙ append-nil (filter p (take i xs))

-- no element between two indices passes
filter-gap : {X : Type 0} (p : X → Bool) (xs : List X) (d : X) (from k : ℕ) → from + k ≤ length xs → ((j : ℕ) → j < k → p (get_or xs (from + j) d) ≡ false) → filter p (take (from + k) xs) ≡ filter p (take from xs)
filter-gap p xs d from zero within h = rw add-zero refl
filter-gap p xs d from (suc k) within h =
    let step : from + suc k ≡ (from + k) + 1 = omega arith in
    ap (λ n. filter p (take n xs)) step
    ∙ filter-skip p xs (from + k) d (omega arith) (h k (omega arith))
    ∙ filter-gap p xs d from k (omega arith) (λ j below. h j (omega arith))

-- the first element at `from` or later that passes
abbrev pub IsFirstFrom : {X : Type 0} → (X → Bool) → List X → X → ℕ → ℕ → Type 0
IsFirstFrom p xs d from index = (from ≤ index) × (index < length xs) × (p (get_or xs index d) ≡ true) × ((k : ℕ) → from ≤ k → k < index → p (get_or xs k d) ≡ false)

pub next_index : {X : Type 0} (p : X → Bool) (xs : List X) (d : X) (from k : ℕ) → position p (drop from xs) ≡ Some k → IsFirstFrom p xs d from (from + k)
next_index p xs d from k h =
    let found = position-Some p (drop from xs) k d h in
    let long : length (drop from xs) ≡ length xs - from = length-drop from xs in (
      omega arith,
      omega (arith, found.0),
      ap p (sym (get_or-drop from xs k d)) ∙ found.1,
      λ j above below. let back : from + (j - from) ≡ j = omega arith in ap (λ i. p (get_or xs i d)) (sym back) ∙ ap p (sym (get_or-drop from xs (j - from) d)) ∙ found.2 (j - from) (omega arith),
    )

-- no other word up to the next one is feasible
pub next_before : (state : Position) (light from index : ℕ) → IsNextWord state light from index → words_before state light index ≡ words_before state light from
next_before state light from index next =
    let up : from + (index - from) ≡ index = omega (arith, next.above) in
    ap (words_before state light) (sym up)
    ∙ filter-gap (is_feasible_word state light) (spellings_at state light) [] from (index - from) (omega (arith, next.above, next.within)) (λ j below. next.first (from + j) (omega arith) (omega (arith, next.above)))

pub no_more_before : (state : Position) (light from : ℕ) → HasNoMore state light from → words_before state light from ≡ filter (is_feasible_word state light) (spellings_at state light)
no_more_before state light from none =
    let test = is_feasible_word state light in
    let sp = spellings_at state light in
    let long : length (drop from sp) ≡ length sp - from = length-drop from sp in
    let rest : filter test (drop from sp) ≡ [] = filter-none test (drop from sp) [] (λ k below. ap test (get_or-drop from sp k []) ∙ none (from + k) (omega arith) (omega arith)) in
    sym (append-nil (filter test (take from sp))) ∙ ap (λ ys. filter test (take from sp) ++ ys) (sym rest) ∙ sym (filter-append test (take from sp) (drop from sp)) ∙ ap (filter test) (take-append-drop from sp)

-- ---- the next word that an engine answers

listed_at : (o : Option ℕ) (from index : ℕ) → option_map (λ k. Listed (from + k)) o ≡ Some (Listed index) → (k : ℕ) × (o ≡ Some k) × (from + k ≡ index)
listed_at None from index h = cc
listed_at (Some k) from index h = (k, refl, let same : Listed (from + k) ≡ Listed index = cc in cc)

none_listed : (o : Option ℕ) (from : ℕ) → option_map (λ k. Listed (from + k)) o ≡ None → o ≡ None
none_listed None from h = refl
none_listed (Some k) from h = cc

none_entered : (o : Option ℕ) (from : ℕ) → option_map (λ k. Listed (from + k)) o ≡ Some Entered → ⊥
none_entered None from h = cc
none_entered (Some k) from h = cc

-- a known word is an active answer if and only if it is feasible
active_answer : (state : Position) (answers : Answers) (light k : ℕ) → AreAnswers state.board state.words answers → HasDistinctWords state.words → light < light_count state → is_entered state light ≡ false → k < length (known_words state.words (length (light_at state.board light)))
    → is_active_answer answers light (get_or (known_words state.words (length (light_at state.board light))) k no_entry) ≡ is_feasible_word state light (get_or (spellings_at state light) k [])
active_answer state answers light k exact dictionary in_grid not_entered below =
    let known = known_words state.words (length (light_at state.board light)) in
    let word = get_or known k no_entry in
    let spelled_at : get_or (spellings_at state light) k [] ≡ word.word = get_or-map (λ (w : Entry). w.word) known k no_entry [] below in
    let same = answers_word-is state answers exact light word.word in
    elim (cases_Bool (is_feasible_word state light word.word)) [
      | inl feasible ↦
          let active = (and_parts word.active (agrees state.board (light_at state.board light) word.word) (feasible_known state light k dictionary in_grid not_entered below feasible)).0 in
          and_from _ _ active (same ∙ feasible) ∙ sym (ap (is_feasible_word state light) spelled_at ∙ feasible)
      | inr fails ↦ and_right word.active _ (same ∙ fails) ∙ sym (ap (is_feasible_word state light) spelled_at ∙ fails)
    ]

next_found_open : (state : Position) (answers : Answers) (light from : ℕ) → is_entered state light ≡ false → next_found state.board state.words answers light from ≡ option_map (λ index. Listed (from + index)) (position (is_active_answer answers light) (drop from (known_words state.words (length (light_at state.board light)))))
next_found_open state answers light from not_entered = rw not_entered refl

pub next_listed : (state : Position) (answers : Answers) (light from index : ℕ) → AreAnswers state.board state.words answers → HasDistinctWords state.words → light < light_count state → is_entered state light ≡ false → next_found state.board state.words answers light from ≡ Some (Listed index) → IsNextWord state light from index
next_listed state answers light from index exact dictionary in_grid not_entered h =
    let known = known_words state.words (length (light_at state.board light)) in
    let test = is_active_answer answers light in
    let found = listed_at (position test (drop from known)) from index (sym (next_found_open state answers light from not_entered) ∙ h) in
    let first = subst (IsFirstFrom test known no_entry from) found.2 (next_index test known no_entry from found.0 found.1) in
    let long = length-map known (λ (w : Entry). w.word) in
    record {
      above = first.0;
      within = omega (arith, long, first.1);
      feasible = sym (active_answer state answers light index exact dictionary in_grid not_entered first.1) ∙ first.2;
      first = λ k above below. let under : k < length known = omega (arith, first.1) in sym (active_answer state answers light k exact dictionary in_grid not_entered under) ∙ first.3 k above below;
    }

pub next_none : (state : Position) (answers : Answers) (light from : ℕ) → AreAnswers state.board state.words answers → HasDistinctWords state.words → light < light_count state → is_entered state light ≡ false → next_found state.board state.words answers light from ≡ None → HasNoMore state light from
next_none state answers light from exact dictionary in_grid not_entered h = λ k above below.
    let known = known_words state.words (length (light_at state.board light)) in
    let test = is_active_answer answers light in
    let long = length-map known (λ (w : Entry). w.word) in
    let under : k < length known = omega (arith, long, below) in
    sym (active_answer state answers light k exact dictionary in_grid not_entered under) ∙ no_index test known no_entry from (none_listed (position test (drop from known)) from (sym (next_found_open state answers light from not_entered) ∙ h)) k above under

pub next_not_entered : (state : Position) (answers : Answers) (light from : ℕ) → is_entered state light ≡ false → next_found state.board state.words answers light from ≡ Some Entered → ⊥
next_not_entered state answers light from not_entered h =
    none_entered (position (is_active_answer answers light) (drop from (known_words state.words (length (light_at state.board light))))) from (sym (next_found_open state answers light from not_entered) ∙ h)

-- one more feasible word before the next index
pub words_before-more : (state : Position) (light index : ℕ) → index < length (spellings_at state light) → is_feasible_word state light (get_or (spellings_at state light) index []) ≡ true → words_before state light (index + 1) ≡ words_before state light index ++ get_or (spellings_at state light) index [] ∷ []
words_before-more state light index below passes = filter-pass (is_feasible_word state light) (spellings_at state light) index [] below passes

-- the feasible words split at an index
pub words_parted : (state : Position) (light index : ℕ) → HasDistinctWords state.words → light < light_count state → is_entered state light ≡ false → index < length (spellings_at state light) → is_feasible_word state light (get_or (spellings_at state light) index []) ≡ true
    → feasible_words state light ≡ words_before state light index ++ (get_or (spellings_at state light) index [] ∷ words_left state light (index + 1))
words_parted state light index dictionary in_grid not_entered below passes =
    let test = is_feasible_word state light in
    let sp = spellings_at state light in
    feasible_known_words state light dictionary in_grid not_entered
    ∙ ap (filter test) (sym (take-append-drop (index + 1) sp))
    ∙ filter-append test (take (index + 1) sp) (drop (index + 1) sp)
    ∙ ap (λ ws. ws ++ words_left state light (index + 1)) (words_before-more state light index below passes)
    ∙ append_assoc (words_before state light index) (get_or sp index [] ∷ []) (words_left state light (index + 1))
