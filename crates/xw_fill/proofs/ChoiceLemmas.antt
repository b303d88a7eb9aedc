-- What the choice of a word leaves.
use Rattle.std.proofs.Common.{◌≡◌, ℕ, ◌<◌, true, List, [], length, get_or, refl, sym, ◌∙◌, ap, subst, arith, inl, inr}
use Rattle.std.specs.Prelude.{All, Some, None}
use Rattle.std.proofs.lemmas.List.{get_or-map, length-map, get_or_default, ext_get_or}
use Rattle.xw_letters.specs.Letter.{IsLetter}
use Rattle.xw_words.specs.Dictionary.{Entry, known_words, no_entry}
use Rattle.xw_grid.specs.Light.{lights_of, no_light}
use Rattle.xw_feas.specs.Board.{board_of, light_at, spelled, entry}
use Rattle.xw_feas.specs.State.{State}
use Rattle.xw_feas.specs.WellFormed.{IsWellFormed}
use Rattle.xw_search.specs.Position.{Position, position_of, placed, holding, entries_with}
use Rattle.xw_fill.specs.Choices.{fewest_words, fewest_in, fewest_after}
use Rattle.xw_search.specs.Lights.{is_entered, spelling}
use Rattle.xw_fill.specs.Words.{spellings_at}
use Rattle.xw_search.proofs.PlacingLemmas.{entered-at, length-spelled, spelled-at, cell_in, length-entries_with, entries_with-at, entries_with-other}
use Rattle.xw_search.proofs.LightLemmas.{cells_within}
use Rattle.xw_fill.proofs.SearchLemmas.{cells_distinct}
use Rattle.xw_search.proofs.Shaped.{IsShaped, shaped}
use Rattle.xw_search.proofs.StateLemmas.{in_grid_light, light_size}
use Rattle.xw_fill.proofs.StateLemmas.{place_leads}

-- the state after a word of letters is placed
pub letters_after : (state : State) (light : ℕ) (word : List ℕ) → IsWellFormed state → light < length (board_of state.grid).lights → All IsLetter word → length word ≡ length (light_at (board_of state.grid) light)
    → fewest_after state light word ≡ fewest_words (placed (position_of state) light word)
letters_after state light word formed below letters long =
    let in_grid = in_grid_light state.grid light below in
    let size = light_size state.grid light (get_or (lights_of state.grid) light no_light) in_grid refl in
    let leads = place_leads state light word formed.grid in_grid letters (long ∙ size) in
    ap fewest_in leads.1 ∙ ap fewest_words leads.2

-- the state after a known word is placed
pub known_after : (state : State) (light index : ℕ) → IsWellFormed state → light < length (board_of state.grid).lights → index < length (spellings_at (position_of state) light)
    → fewest_after state light (get_or (spellings_at (position_of state) light) index []) ≡ fewest_words (placed (position_of state) light (get_or (spellings_at (position_of state) light) index []))
known_after state light index formed below within =
    let size = length (light_at (board_of state.grid) light) in
    let known = known_words state.words size in
    let is = formed.dictionary.words size in
    let there : index < length known = omega (arith, within, length-map known (λ (w : Entry). w.word)) in
    let word : get_or (spellings_at (position_of state) light) index [] ≡ (get_or known index no_entry).word = get_or-map (λ (w : Entry). w.word) known index no_entry [] there in
    letters_after state light (get_or (spellings_at (position_of state) light) index []) formed below
    (subst (λ w. All IsLetter w) (sym word) (is.letters index no_entry there))
    (ap length word ∙ is.long index no_entry there)

-- placing the word that a light spells changes nothing
placed_itself : (position : Position) (light : ℕ) → IsShaped position.board → is_entered position light ≡ true → placed position light (spelling position light) ≡ position
placed_itself position light laid entered =
    let board = position.board in
    let cells = light_at board light in
    let word = spelled board cells in
    ap (holding position) (ext_get_or None (entries_with board.entries cells word) board.entries (length-entries_with board.entries cells word) (λ i below. elim (cell_in cells i) [
      | inl found ↦
          let letter = entered-at board cells entered found.0 found.1 in
          ap (λ cell. get_or (entries_with board.entries cells word) cell None) (sym found.2)
          ∙ entries_with-at board.entries cells word (cells_distinct board laid light) (length-spelled board cells) found.0 found.1 (cells_within board laid light found.0 found.1)
          ∙ ap Some (spelled-at board cells found.0 letter.0 found.1 letter.1)
          ∙ sym letter.1
          ∙ ap (entry board) found.2
      | inr none ↦ entries_with-other board.entries cells word i none
    ]))

-- the state after the word that a light spells is placed
pub entered_after : (state : State) (light : ℕ) → IsWellFormed state → light < length (board_of state.grid).lights → is_entered (position_of state) light ≡ true
    → fewest_after state light (spelling (position_of state) light) ≡ fewest_words (position_of state)
entered_after state light formed below entered =
    let board = board_of state.grid in
    let cells = light_at board light in
    let word = spelled board cells in
    letters_after state light word formed below
    (λ k d within.
    let there : k < length cells = omega (arith, within, length-spelled board cells) in
    let letter = entered-at board cells entered k there in
    subst IsLetter (sym (get_or_default word k d 0 within ∙ spelled-at board cells k letter.0 there letter.1)) (formed.board.letters (get_or cells k 0) letter.0 letter.1))
    (length-spelled board cells)
    ∙ ap fewest_words (placed_itself (position_of state) light (shaped board formed.board) entered)
