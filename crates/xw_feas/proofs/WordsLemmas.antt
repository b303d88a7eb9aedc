-- The feasible words of a light in order, as the queries return them.
use Rattle.std.proofs.Common.{◌≡◌, ℕ, zero, suc, ◌+◌, ◌<◌, Bool, true, false, cond, ◌&&◌, List, [], ◌∷◌, map, length, get_or, drop, Some, None, refl, sym, ◌∙◌, ap, arith, inl, inr}
use Rattle.std.specs.Prelude.{filter, position, Option, option_map, ◌==◌}
use Rattle.std.proofs.lemmas.Bool.{cases_Bool, and_parts, and_from}
use Rattle.std.proofs.lemmas.List.Quantifiers.{position-Some}
use Rattle.std.proofs.lemmas.List.Elements.{filter_agree}
use Rattle.std.proofs.lemmas.List.{get_or-drop, length-drop, drop-drop}
use Rattle.xw_text.proofs.Position.{position-None}
use Rattle.xw_words.specs.Dictionary.{Entry, Dictionary, no_entry, entry_at, known_words}
use Rattle.std.specs.Prelude.{Ok}
use Rattle.xw_grid.specs.declared.cell.LightName.{LightName}
use Rattle.xw_grid.specs.declared.lights.Light.{Light}
use Rattle.xw_grid.specs.Grid.{Grid}
use Rattle.xw_grid.specs.Light.{lights_of, index_named, same_name, no_light}
use Rattle.xw_feas.specs.State.{State}
use Rattle.xw_feas.specs.Board.{Board, board_of, light_at, is_wholly_entered, spelled, agrees}
use Rattle.xw_feas.specs.Feasible.{Answers, AreAnswers, answers_word, base_words}
use Rattle.xw_feas.specs.Queries.{words_of, next_found, is_active_answer, on_light, words_answer}
use Rattle.xw_feas.specs.declared.edit.Found.{Found}
use Rattle.xw_feas.specs.declared.edit.Found.TheVariants.{Listed, Entered}
use Rattle.xw_feas.specs.Words.{words_from}
use Rattle.xw_feas.proofs.AnswersLemmas.{same_tests}
use Rattle.xw_feas.proofs.Support.{base_words_here}
use Rattle.xw_feas.proofs.QueryLemmas.{feasible_agrees}
use Rattle.xw_feas.proofs.BoardLemmas.{length-lights}

-- the first element that passes, and those after it
filter_first : {X : Type 0} (test : X → Bool) (xs : List X) (i : ℕ) (d : X) → i < length xs → test (get_or xs i d) ≡ true → ((k : ℕ) → k < i → test (get_or xs k d) ≡ false) → filter test xs ≡ get_or xs i d ∷ filter test (drop (i + 1) xs)
filter_first test [] i d below here before = absurd (omega arith)
filter_first test (x ∷ xs) zero d below here before = rw here refl
filter_first test (x ∷ xs) (suc i) d below here before =
    let fails : test x ≡ false = before 0 (omega arith) in
    let next : suc i + 1 ≡ suc (i + 1) = omega arith in
    rw (fails, next) (filter_first test xs i d (omega arith) here (λ k under. before (suc k) (omega arith)))

filter_none : {X : Type 0} (test : X → Bool) (xs : List X) (d : X) → ((k : ℕ) → k < length xs → test (get_or xs k d) ≡ false) → filter test xs ≡ []
filter_none test [] d none = refl
filter_none test (x ∷ xs) d none =
    let fails : test x ≡ false = none 0 (omega arith) in
    rw fails (filter_none test xs d (λ k below. none (suc k) (omega arith)))

-- a filter of a filtered list
filter-map-filter : (first : Entry → Bool) (second : List ℕ → Bool) (words : List Entry) → filter second (map (λ (w : Entry). w.word) (filter first words)) ≡ map (λ (w : Entry). w.word) (filter (λ w. first w && second w.word) words)
filter-map-filter first second [] = refl
filter-map-filter first second (w ∷ ws) = elim (cases_Bool (first w)) [
  | inl on ↦ elim (cases_Bool (second w.word)) [
    | inl on' ↦ rw (on, on') (ap (λ rest. w.word ∷ rest) (filter-map-filter first second ws))
    | inr off' ↦ rw (on, off') (filter-map-filter first second ws)
  ]
  | inr off ↦ rw off (filter-map-filter first second ws)
]

-- from index 0 on they are all feasible words of the light
pub words_from_start : (board : Board) (dictionary : Dictionary) (answers : Answers) → AreAnswers board dictionary answers → (light : ℕ) → light < length board.lights → words_from board dictionary answers light 0 ≡ words_of answers light
words_from_start board dictionary answers are light below = elim (cases_Bool (is_wholly_entered board (light_at board light))) [
  | inl entered ↦ ap (λ b. cond b (words_of answers light) (map (λ (w : Entry). w.word) (filter (is_active_answer answers light) (known_words dictionary (length (light_at board light)))))) entered
  | inr open_light ↦
      let known = known_words dictionary (length (light_at board light)) in
      let base : base_words board dictionary (light_at board light) ≡ map (λ (w : Entry). w.word) (filter (λ (w : Entry). w.active && agrees board (light_at board light) w.word) known) = rw open_light refl in
      ap (λ b. cond b (words_of answers light) (map (λ (w : Entry). w.word) (filter (is_active_answer answers light) known))) open_light
      ∙ sym (are.words_in_order light
      ∙ ap (filter (answers_word answers light)) (base_words_here board dictionary light below ∙ base)
      ∙ filter-map-filter (λ (w : Entry). w.active && agrees board (light_at board light) w.word) (answers_word answers light) known
      ∙ ap (map (λ (w : Entry). w.word)) (filter_agree (λ (w : Entry). (w.active && agrees board (light_at board light) w.word) && answers_word answers light w.word) (is_active_answer answers light)
      (λ w. same_tests _ _
      (λ h. let parts = and_parts (w.active && agrees board (light_at board light) w.word) (answers_word answers light w.word) h in
      and_from _ _ (and_parts w.active (agrees board (light_at board light) w.word) parts.0).0 parts.1)
      (λ h. let parts = and_parts w.active (answers_word answers light w.word) h in
      and_from _ _ (and_from _ _ parts.0 (feasible_agrees board dictionary light w.word open_light ((are.words light w.word).0 parts.1))) parts.1))
      known))
]

-- what a query for the next word means for the remaining words
pub words_from_listed : (board : Board) (dictionary : Dictionary) (answers : Answers) (light from index : ℕ) → next_found board dictionary answers light from ≡ Some (Listed index) → (index < length (known_words dictionary (length (light_at board light)))) × (words_from board dictionary answers light from ≡ (entry_at (known_words dictionary (length (light_at board light))) index).word ∷ words_from board dictionary answers light (index + 1))
words_from_listed board dictionary answers light from index found = split (is_wholly_entered board (light_at board light)) refl found where
  known : List Entry
  known = known_words dictionary (length (light_at board light))

  test : Entry → Bool
  test = is_active_answer answers light

  found_with : Bool → Option Found
  found_with entered =
      cond entered (cond (from == 0 && answers_word answers light (spelled board (light_at board light))) (Some Entered) None)
      (option_map (λ p. Listed (from + p)) (position (is_active_answer answers light) (drop from (known_words dictionary (length (light_at board light))))))

  by_index : (r : Option ℕ) → position (is_active_answer answers light) (drop from (known_words dictionary (length (light_at board light)))) ≡ r → option_map (λ p. Listed (from + p)) r ≡ Some (Listed index) → is_wholly_entered board (light_at board light) ≡ false → (index < length (known_words dictionary (length (light_at board light)))) × (words_from board dictionary answers light from ≡ (entry_at (known_words dictionary (length (light_at board light))) index).word ∷ words_from board dictionary answers light (index + 1))
  by_index None at h open_light = cc
  by_index (Some k) at h open_light =
      let here : from + k ≡ index = cc in
      let first = position-Some (is_active_answer answers light) (drop from (known_words dictionary (length (light_at board light)))) k no_entry at in
      let long = length-drop from (known_words dictionary (length (light_at board light))) in
      let list = filter_first (is_active_answer answers light) (drop from (known_words dictionary (length (light_at board light)))) k no_entry first.0 first.1 first.2 in
      let item : get_or (drop from (known_words dictionary (length (light_at board light)))) k no_entry ≡ entry_at (known_words dictionary (length (light_at board light))) index = get_or-drop from (known_words dictionary (length (light_at board light))) k no_entry ∙ ap (entry_at (known_words dictionary (length (light_at board light)))) here in
      let rest : drop (k + 1) (drop from (known_words dictionary (length (light_at board light)))) ≡ drop (index + 1) (known_words dictionary (length (light_at board light))) = drop-drop (k + 1) from (known_words dictionary (length (light_at board light))) ∙ ap (λ n. drop n (known_words dictionary (length (light_at board light)))) (let h : from + (k + 1) ≡ index + 1 = omega arith in h) in
      (omega (arith, first.0, long), rw open_light (ap (map (λ (w : Entry). w.word)) (list ∙ ap (λ e. e ∷ filter (is_active_answer answers light) (drop (k + 1) (drop from (known_words dictionary (length (light_at board light)))))) item ∙ ap (λ es. entry_at (known_words dictionary (length (light_at board light))) index ∷ filter (is_active_answer answers light) es) rest)))

  not_entered : (b : Bool) → cond b (Some Entered) None ≡ Some (Listed index) → ⊥
  not_entered true h = cc
  not_entered false h = cc

  split : (entered : Bool) → is_wholly_entered board (light_at board light) ≡ entered → next_found board dictionary answers light from ≡ Some (Listed index) → (index < length (known_words dictionary (length (light_at board light)))) × (words_from board dictionary answers light from ≡ (entry_at (known_words dictionary (length (light_at board light))) index).word ∷ words_from board dictionary answers light (index + 1))
  split true is h = absurd (not_entered (from == 0 && answers_word answers light (spelled board (light_at board light))) (sym (ap found_with is) ∙ h))
  split false is h = by_index (position (is_active_answer answers light) (drop from (known_words dictionary (length (light_at board light))))) refl (sym (ap found_with is) ∙ h) is

-- a filled light has the word that it spells as its only feasible word, or none
pub words_of_entered : (board : Board) (dictionary : Dictionary) (answers : Answers) → AreAnswers board dictionary answers → (light : ℕ) → light < length board.lights → is_wholly_entered board (light_at board light) ≡ true → words_of answers light ≡ cond (answers_word answers light (spelled board (light_at board light))) (spelled board (light_at board light) ∷ []) []
words_of_entered board dictionary answers are light below entered =
    let base : base_words board dictionary (light_at board light) ≡ spelled board (light_at board light) ∷ [] = rw entered refl in
    are.words_in_order light ∙ ap (filter (answers_word answers light)) (base_words_here board dictionary light below ∙ base)

pub words_from_none : (board : Board) (dictionary : Dictionary) (answers : Answers) → AreAnswers board dictionary answers → (light from : ℕ) → light < length board.lights → next_found board dictionary answers light from ≡ None → words_from board dictionary answers light from ≡ []
words_from_none board dictionary answers are light from below found = split (is_wholly_entered board (light_at board light)) refl where
  found_with : Bool → Option Found
  found_with entered =
      cond entered (cond (from == 0 && answers_word answers light (spelled board (light_at board light))) (Some Entered) None)
      (option_map (λ p. Listed (from + p)) (position (is_active_answer answers light) (drop from (known_words dictionary (length (light_at board light))))))

  entered_none : (start word : Bool) → cond (start && word) (Some Entered) None ≡ None → cond {A = List (List ℕ)} start (cond word (spelled board (light_at board light) ∷ []) []) [] ≡ []
  entered_none true true h = cc
  entered_none true false h = refl
  entered_none false word h = refl

  by_index : (r : Option ℕ) → position (is_active_answer answers light) (drop from (known_words dictionary (length (light_at board light)))) ≡ r → option_map (λ p. Listed (from + p)) r ≡ None → filter (is_active_answer answers light) (drop from (known_words dictionary (length (light_at board light)))) ≡ []
  by_index None at h = filter_none (is_active_answer answers light) (drop from (known_words dictionary (length (light_at board light)))) no_entry (λ k under. position-None (is_active_answer answers light) (drop from (known_words dictionary (length (light_at board light)))) at k no_entry under)
  by_index (Some k) at h = cc

  split : (entered : Bool) → is_wholly_entered board (light_at board light) ≡ entered → words_from board dictionary answers light from ≡ []
  split true is =
      rw is (ap (λ ws. cond {A = List (List ℕ)} (from == 0) ws []) (words_of_entered board dictionary answers are light below is)
      ∙ entered_none (from == 0) (answers_word answers light (spelled board (light_at board light))) (sym (ap found_with is) ∙ found))
  split false is = rw is (ap (map (λ (w : Entry). w.word)) (by_index (position (is_active_answer answers light) (drop from (known_words dictionary (length (light_at board light))))) refl (sym (ap found_with is) ∙ found)))

-- the index of a light that is found by its name is on the board
pub named_within : (grid : Grid) (name : LightName) (light : ℕ) → index_named (lights_of grid) name ≡ Some light → light < length (board_of grid).lights
named_within grid name light found =
    let first = position-Some (λ (light : Light). same_name light.name name) (lights_of grid) light no_light found in
    omega (arith, first.0, length-lights grid)

pub words_named : (state : State) (answers : Answers) → AreAnswers (board_of state.grid) state.words answers → (name : LightName) (light : ℕ) → index_named (lights_of state.grid) name ≡ Some light → Ok (words_from (board_of state.grid) state.words answers light 0) ≡ words_answer state answers name
words_named state answers are name light found =
    ap Ok (words_from_start (board_of state.grid) state.words answers are light (named_within state.grid name light found))
    ∙ sym (ap (on_light (words_of answers)) found)

-- the step over the entered word, which is the only one
pub words_from_entered : (board : Board) (dictionary : Dictionary) (answers : Answers) → AreAnswers board dictionary answers → (light from : ℕ) → light < length board.lights → next_found board dictionary answers light from ≡ Some Entered → words_from board dictionary answers light from ≡ spelled board (light_at board light) ∷ words_from board dictionary answers light 1
words_from_entered board dictionary answers are light from below found = split (is_wholly_entered board (light_at board light)) refl where
  found_with : Bool → Option Found
  found_with entered =
      cond entered (cond (from == 0 && answers_word answers light (spelled board (light_at board light))) (Some Entered) None)
      (option_map (λ p. Listed (from + p)) (position (is_active_answer answers light) (drop from (known_words dictionary (length (light_at board light))))))

  at_start : (start word : Bool) → cond (start && word) (Some Entered) None ≡ Some Entered → cond {A = List (List ℕ)} start (cond word (spelled board (light_at board light) ∷ []) []) [] ≡ spelled board (light_at board light) ∷ []
  at_start true true h = refl
  at_start true false h = cc
  at_start false word h = cc

  listed : (r : Option ℕ) → option_map (λ p. Listed (from + p)) r ≡ Some Entered → ⊥
  listed None h = cc
  listed (Some index) h = cc

  split : (entered : Bool) → is_wholly_entered board (light_at board light) ≡ entered → words_from board dictionary answers light from ≡ spelled board (light_at board light) ∷ words_from board dictionary answers light 1
  split true is =
      rw is (ap (λ ws. cond {A = List (List ℕ)} (from == 0) ws []) (words_of_entered board dictionary answers are light below is)
      ∙ at_start (from == 0) (answers_word answers light (spelled board (light_at board light))) (sym (ap found_with is) ∙ found))
  split false is = absurd (listed (position (is_active_answer answers light) (drop from (known_words dictionary (length (light_at board light))))) (sym (ap found_with is) ∙ found))
