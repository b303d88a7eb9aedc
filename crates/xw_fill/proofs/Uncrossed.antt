-- A light that no other light crosses leaves the others the same words, whatever word it holds.
use Rattle.std.proofs.Common.{◌≡◌, ◌≢◌, ℕ, zero, suc, ◌<◌, ◌≤◌, Bool, true, false, cond, not, ◌&&◌, List, [], ◌∷◌, map, length, get_or, Option, Some, None, refl, sym, ◌∙◌, ap, subst, arith, inl, inr}
use Rattle.std.specs.Prelude.{filter, Contains, ◌==◌, nat_lt, option_map, is_some, IsTrue}
use Rattle.std.specs.List.{list_any}
use Rattle.std.proofs.lemmas.Bool.{and_parts, and_from, false≢true, cases_eq, eq-eqb, ne_eqb, eqb-true, false_from_ne_true}
use Rattle.std.proofs.lemmas.List.{get_or-map, get_or_default, length-map}
use Rattle.xw_words.specs.Dictionary.{Entry, Dictionary, known_words, no_entry}
use Rattle.xw_feas.specs.Board.{Board, board_of, entry, is_open, light_at, allows, agrees, is_wholly_entered, spelled}
use Rattle.xw_letters.specs.Letter.{is_capital}
use Rattle.xw_feas.specs.Feasible.{Family, IsSupported, base_words, base_words_at}
use Rattle.xw_feas.specs.State.{State}
use Rattle.xw_feas.specs.WellFormed.{IsWellFormed}
use Rattle.xw_feas.proofs.AnswersLemmas.{feasible_base}
use Rattle.xw_search.specs.Position.{Position, position_of, with_entries, placed}
use Rattle.xw_fill.specs.Choices.{CrossesNone, fewest_words, fewest_after}
use Rattle.xw_search.specs.FeasibleWords.{is_feasible_word, feasible_words}
use Rattle.xw_search.specs.Lights.{light_count, is_entered}
use Rattle.xw_fill.specs.Search.{with_fewer, chosen_below, chosen}
use Rattle.xw_fill.specs.Words.{spellings_at}
use Rattle.xw_search.proofs.BelowLemmas.{Among-contained, Contains-among, list_any-from, list_any-gives}
use Rattle.xw_fill.proofs.ChoiceLemmas.{known_after}
use Rattle.xw_search.proofs.FeasibleWordsLemmas.{same_tests, filter-same, is_feasible_word-gives, is_feasible_word-from}
use Rattle.xw_search.proofs.PlacingLemmas.{entries_with-other, spelled-same}
use Rattle.xw_fill.proofs.SearchLemmas.{chosen_below-Some, placed-enters}
use Rattle.xw_search.proofs.Shaped.{shaped}

-- ---- cells whose entries are the same

module _ (one other : Board) where
  -- the cells have the same entries on both boards
  abbrev pub AreSame : List ℕ → Type 0
  AreSame cells = (k : ℕ) → k < length cells → entry one (get_or cells k 0) ≡ entry other (get_or cells k 0)

  entered_same : (cells : List ℕ) → AreSame cells → is_wholly_entered one cells ≡ is_wholly_entered other cells
  entered_same [] same = refl
  entered_same (cell ∷ cells) same =
      ap (λ e. is_some e && is_wholly_entered one cells) (same 0 (omega arith))
      ∙ ap (λ b. is_some (entry other cell) && b) (entered_same cells (λ k below. same (suc k) (omega arith)))

  agrees_same : (cells word : List ℕ) → AreSame cells → agrees one cells word ≡ agrees other cells word
  agrees_same [] [] same = refl
  agrees_same [] (letter ∷ letters) same = refl
  agrees_same (cell ∷ cells) [] same = refl
  agrees_same (cell ∷ cells) (letter ∷ letters) same =
      ap (λ e. allows e letter && agrees one cells letters) (same 0 (omega arith))
      ∙ ap (λ b. allows (entry other cell) letter && b) (agrees_same cells letters (λ k below. same (suc k) (omega arith)))

  base_same : (words : Dictionary) (cells : List ℕ) → AreSame cells → base_words one words cells ≡ base_words other words cells
  base_same words cells same =
      let known = known_words words (length cells) in
      let spelling : Entry → List ℕ = λ w. w.word in
      let here : Entry → Bool = λ w. w.active && agrees one cells w.word in
      let there : Entry → Bool = λ w. w.active && agrees other cells w.word in
      ap (λ b. cond b (spelled one cells ∷ []) (map spelling (filter here known))) (entered_same cells same)
      ∙ ap (λ s. cond (is_wholly_entered other cells) (s ∷ []) (map spelling (filter here known))) (spelled-same one other cells same)
      ∙ ap (λ ws. cond (is_wholly_entered other cells) (spelled other cells ∷ []) (map spelling ws)) (filter-same here there (λ w. ap (λ b. w.active && b) (agrees_same cells w.word same)) known)

-- ---- a family without the words of a light

module _ (board : Board) (light : ℕ) where
  -- the cell is one of the light
  abbrev pub is_in : ℕ → Bool
  is_in cell = list_any (λ one. one == cell) (light_at board light)

  abbrev pub Outside : ℕ → Type 0
  Outside cell = (k : ℕ) → k < length (light_at board light) → get_or (light_at board light) k 0 ≢ cell

  outside_from : (cell : ℕ) → is_in cell ≡ false → Outside cell
  outside_from cell h k below e =
      false≢true (sym h ∙ list_any-from (λ one. one == cell) (light_at board light) (get_or (light_at board light) k 0) (Among-contained (get_or (light_at board light) k 0) (light_at board light) (k, below, get_or_default (light_at board light) k (get_or (light_at board light) k 0) 0 below)) (eq-eqb (get_or (light_at board light) k 0) cell e))

  in_from : (cell : ℕ) (k : ℕ) → k < length (light_at board light) → get_or (light_at board light) k 0 ≡ cell → is_in cell ≡ true
  in_from cell k below e =
      list_any-from (λ one. one == cell) (light_at board light) (get_or (light_at board light) k 0) (Among-contained (get_or (light_at board light) k 0) (light_at board light) (k, below, get_or_default (light_at board light) k (get_or (light_at board light) k 0) 0 below)) (eq-eqb (get_or (light_at board light) k 0) cell e)

  module _ (none : CrossesNone board light) where
    -- a cell of another light is no cell of this one
    apart : (other k : ℕ) → other < length board.lights → other ≢ light → k < length (light_at board other) → Outside (get_or (light_at board other) k 0)
    apart other k within differs below j under meets = none j other under (record { in_board = within; apart = differs; position = k; below = below; meets = sym meets })

    not_in : (other k : ℕ) → other < length board.lights → other ≢ light → k < length (light_at board other) → is_in (get_or (light_at board other) k 0) ≡ false
    not_in other k within differs below = false_from_ne_true _ (λ h.
        let found = list_any-gives (λ one. one == get_or (light_at board other) k 0) (light_at board light) h in
        let at = Contains-among found.0 (light_at board light) found.1 in
        apart other k within differs below at.0 at.1 (get_or_default (light_at board light) at.0 0 found.0 at.1 ∙ at.2 ∙ eqb-true found.0 (get_or (light_at board other) k 0) found.2))

    abbrev pub without : Family → Family
    without family = record { words = λ other word. not (other == light) && family.words other word; letters = λ cell letter. not (is_in cell) && family.letters cell letter }

    other_light : (other : ℕ) → not (other == light) ≡ true → other ≢ light
    other_light other h e = false≢true (sym (ap not (eq-eqb other light e)) ∙ h)

    not_inside : (b : Bool) → not b ≡ true → b ≡ false
    not_inside true h = absurd (false≢true h)
    not_inside false h = refl

    module _ (words : Dictionary) (here there : List (Option ℕ)) (same : (cell : ℕ) → Outside cell → get_or here cell None ≡ get_or there cell None) where
      abbrev one : Board
      one = with_entries board here

      abbrev two : Board
      two = with_entries board there

      same_at : (other : ℕ) → other < length board.lights → other ≢ light → AreSame one two (light_at board other)
      same_at other within differs k below = same (get_or (light_at board other) k 0) (apart other k within differs below)

      pub bases_same : (other : ℕ) → other < length board.lights → other ≢ light → base_words_at one words other ≡ base_words_at two words other
      bases_same other within differs =
          get_or-map (base_words one words) board.lights other [] [] within
          ∙ base_same one two words (light_at board other) (same_at other within differs)
          ∙ sym (get_or-map (base_words two words) board.lights other [] [] within)

      pub without_supported : (family : Family) → IsSupported one words family → IsSupported two words (without family)
      without_supported family supported = record {
        words_are_base = λ other word h.
            let parts = and_parts (not (other == light)) (family.words other word) h in
            subst (λ ws. Contains ws word) (bases_same other (feasible_base one words other word family supported parts.1).0 (other_light other parts.0)) (supported.words_are_base other word parts.1);
        words_have_letters = λ other word h k below.
            let parts = and_parts (not (other == light)) (family.words other word) h in
            and_from _ _ (ap not (not_in other k (feasible_base one words other word family supported parts.1).0 (other_light other parts.0) below)) (supported.words_have_letters other word parts.1 k below);
        letters_agree = λ cell letter h.
            let parts = and_parts (not (is_in cell)) (family.letters cell letter) h in
            subst (λ e. IsTrue (is_open board cell && is_capital letter && allows e letter)) (same cell (outside_from cell (not_inside (is_in cell) parts.0))) (supported.letters_agree cell letter parts.1);
        letters_have_words = λ cell letter h other k within below at.
            let parts = and_parts (not (is_in cell)) (family.letters cell letter) h in
            let found = supported.letters_have_words cell letter parts.1 other k within below at in
            elim (cases_eq other light) [
              | inl e ↦ absurd (outside_from cell (not_inside (is_in cell) parts.0) k (subst (λ l. k < length (light_at board l)) e below) (ap (λ l. get_or (light_at board l) k 0) (sym e) ∙ at))
              | inr differs ↦ (found.0, and_from _ _ (ap not (ne_eqb other light differs)) found.1, found.2)
            ];
      }

      pub feasible_there : (other : ℕ) (word : List ℕ) → other ≢ light → is_feasible_word (record { board = one; words = words }) other word ≡ true → is_feasible_word (record { board = two; words = words }) other word ≡ true
      feasible_there other word differs h =
          let found = is_feasible_word-gives (record { board = one; words = words }) other word h in
          is_feasible_word-from (record { board = two; words = words }) other word (without found.0) (without_supported found.0 found.1) (and_from _ _ (ap not (ne_eqb other light differs)) found.2)

-- ---- the words that the other lights have

module _ (position : Position) (light : ℕ) (none : CrossesNone position.board light) (first second : List ℕ) where
  abbrev one_placed : Position
  one_placed = placed position light first

  abbrev other_placed : Position
  other_placed = placed position light second

  entries_same : (cell : ℕ) → Outside position.board light cell → get_or one_placed.board.entries cell None ≡ get_or other_placed.board.entries cell None
  entries_same cell outside =
      entries_with-other position.board.entries (light_at position.board light) first cell outside
      ∙ sym (entries_with-other position.board.entries (light_at position.board light) second cell outside)

  words_same : (other : ℕ) → other < light_count position → other ≢ light → feasible_words one_placed other ≡ feasible_words other_placed other
  unfolding feasible_words
  words_same other within differs =
      ap (filter (is_feasible_word one_placed other)) (bases_same position.board light none position.words one_placed.board.entries other_placed.board.entries entries_same other within differs)
      ∙ filter-same (is_feasible_word one_placed other) (is_feasible_word other_placed other) (λ word. same_tests _ _
      (feasible_there position.board light none position.words one_placed.board.entries other_placed.board.entries entries_same other word differs)
      (feasible_there position.board light none position.words other_placed.board.entries one_placed.board.entries (λ cell outside. sym (entries_same cell outside)) other word differs))
      _

  module _ (entered_one : is_entered one_placed light ≡ true) (entered_other : is_entered other_placed light ≡ true) where
    open_differs : (other : ℕ) → is_entered one_placed other ≡ false → other ≢ light
    open_differs other h e = false≢true (sym h ∙ ap (is_entered one_placed) e ∙ entered_one)

    entered_there : (other : ℕ) → other < light_count position → other ≢ light → is_entered one_placed other ≡ is_entered other_placed other
    entered_there other within differs = entered_same one_placed.board other_placed.board (light_at position.board other) (λ k below. entries_same (get_or (light_at position.board other) k 0) (apart position.board light none other k within differs below))

    chosen_same : (n : ℕ) → n ≤ light_count position → chosen_below one_placed n ≡ chosen_below other_placed n
    chosen_same zero most = refl
    chosen_same (suc n) most =
        let before = chosen_same n (omega arith) in
        elim (cases_eq n light) [
          | inl e ↦
              ap (λ b. cond b (chosen_below one_placed n) (Some (with_fewer one_placed (chosen_below one_placed n) n))) (ap (is_entered one_placed) e ∙ entered_one)
              ∙ before
              ∙ sym (ap (λ b. cond b (chosen_below other_placed n) (Some (with_fewer other_placed (chosen_below other_placed n) n))) (ap (is_entered other_placed) e ∙ entered_other))
          | inr differs ↦
              ap (λ b. cond b (chosen_below one_placed n) (Some (with_fewer one_placed (chosen_below one_placed n) n))) (entered_there n (omega arith) differs)
              ∙ ap (λ best. cond (is_entered other_placed n) best (Some (with_fewer one_placed (chosen_below one_placed n) n))) before
              ∙ ap (λ l. cond (is_entered other_placed n) (chosen_below other_placed n) (Some l)) (fewer n (omega arith) differs (chosen_below one_placed n) refl ∙ ap (λ best. with_fewer other_placed best n) before)
        ] where
          fewer : (m : ℕ) → m < light_count position → m ≢ light → (best : Option ℕ) → chosen_below one_placed m ≡ best → with_fewer one_placed best m ≡ with_fewer other_placed best m
          fewer m within differs None is = refl
          fewer m within differs (Some best) is =
              let open_best = chosen_below-Some one_placed m best is in
              let mine : length (feasible_words one_placed m) ≡ length (feasible_words other_placed m) = ap length (words_same m within differs) in
              let its : length (feasible_words one_placed best) ≡ length (feasible_words other_placed best) = ap length (words_same best (omega (arith, open_best.0, within)) (open_differs best open_best.1)) in
              ap (λ k. cond (nat_lt k (length (feasible_words one_placed best))) m best) mine
              ∙ ap (λ k. cond (nat_lt (length (feasible_words other_placed m)) k) m best) its

    fewest_same : fewest_words one_placed ≡ fewest_words other_placed
    unfolding chosen
    fewest_same = by_chosen (chosen_below one_placed (light_count position)) refl ∙ ap (option_map (λ other. length (feasible_words other_placed other))) (chosen_same (light_count position) (omega arith)) where
      by_chosen : (found : Option ℕ) → chosen_below one_placed (light_count position) ≡ found → option_map (λ other. length (feasible_words one_placed other)) found ≡ option_map (λ other. length (feasible_words other_placed other)) found
      by_chosen None is = refl
      by_chosen (Some other) is =
          let there = chosen_below-Some one_placed (light_count position) other is in
          ap (λ words. Some (length words)) (words_same other there.0 (open_differs other there.1))

-- known words leave the same
pub uncrossed_same : (state : State) (light one other : ℕ) → IsWellFormed state → CrossesNone (board_of state.grid) light → light < length (board_of state.grid).lights → one < length (spellings_at (position_of state) light) → other < length (spellings_at (position_of state) light)
    → fewest_after state light (get_or (spellings_at (position_of state) light) one []) ≡ fewest_after state light (get_or (spellings_at (position_of state) light) other [])
uncrossed_same state light one other formed none below first second =
    let position = position_of state in
    let spelt = spellings_at position light in
    let laid = shaped (board_of state.grid) formed.board in
    known_after state light one formed below first
    ∙ fewest_same position light none (get_or spelt one []) (get_or spelt other [])
    (placed-enters position light (get_or spelt one []) laid (known_long one first))
    (placed-enters position light (get_or spelt other []) laid (known_long other second))
    ∙ sym (known_after state light other formed below second) where
      known_long : (index : ℕ) → index < length (spellings_at (position_of state) light) → length (get_or (spellings_at (position_of state) light) index []) ≡ length (light_at (board_of state.grid) light)
      known_long index within =
          let size = length (light_at (board_of state.grid) light) in
          let known = known_words state.words size in
          let there : index < length known = omega (arith, within, length-map known (λ (w : Entry). w.word)) in
          ap length (get_or-map (λ (w : Entry). w.word) known index no_entry [] there) ∙ (formed.dictionary.words size).long index no_entry there
