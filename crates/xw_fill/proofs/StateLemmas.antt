-- How letter edits change a state and its position.
use Rattle.std.proofs.Common.{◌≡◌, ℕ, suc, ◌<◌, true, List, [], ◌∷◌, map, length, get_or, set, Option, Some, None, refl, sym, ◌∙◌, ap, subst, arith}
use Rattle.std.specs.Prelude.{Ok, All}
use Rattle.std.proofs.lemmas.List.{get_or-map, length-map}
use Rattle.xw_words.specs.Dictionary.{Entry, known_words, entry_at, no_entry}
use Rattle.xw_feas.specs.WellFormed.{IsWellFormed}
use Rattle.xw_fill.specs.Words.{spellings_at}
use Rattle.xw_letters.specs.Letter.{IsLetter}
use Rattle.xw_grid.specs.declared.cell.Cell.{Cell}
use Rattle.xw_grid.specs.declared.lights.Light.{Light}
use Rattle.xw_grid.specs.Grid.{Grid, IsGrid, is_open, index_of}
use Rattle.xw_grid.specs.Light.{lights_of, cells_of, step, no_light}
use Rattle.xw_grid.specs.Edit.{with_entry}
use Rattle.xw_grid.proofs.LightLemmas.{cells_of_are_open, length-line, get_or-line}
use Rattle.xw_feas.specs.Board.{board_of, indices_of, light_at}
use Rattle.xw_feas.specs.State.{State, word_placed, after, with_letters, with_grid, light_of, known_count, known_placed}
use Rattle.xw_feas.proofs.BoardLemmas.{light_at-board}
use Rattle.xw_feas.proofs.PlacingLemmas.{word_accepted, known_letters, known_length}
use Rattle.xw_grid.proofs.ChangeLemmas.{SameShape-entry}
use Rattle.xw_search.specs.Position.{position_of, holding, placed, with_entries, entries_with, DiffersInEntries, name_at}
use Rattle.xw_search.proofs.StateLemmas.{DiffersInEntries-itself, DiffersInEntries-then, IsGrid-entry, differs_in_squares, entry_board, in_grid_light, light_size}

-- ---- an entry of the grid

-- entering the letters of a word in open cells
letters_board : (grid : Grid) (cells : List Cell) (word : List ℕ) (d : Cell) → All IsLetter word → IsGrid grid → ((k : ℕ) → k < length cells → is_open grid (get_or cells k d) ≡ true)
    → board_of (with_letters grid cells word) ≡ with_entries (board_of grid) (entries_with (board_of grid).entries (map (index_of grid) cells) word)
letters_board grid [] word d letters is open_cells = refl
letters_board grid (cell ∷ cells) [] d letters is open_cells = refl
letters_board grid (cell ∷ cells) (letter ∷ word) d letters is open_cells =
    let one = entry_board grid cell (Some letter) is (open_cells 0 (omega arith)) in
    let shape = SameShape-entry grid cell (Some letter) is (open_cells 0 (omega arith)) in
    letters_board (with_entry grid cell (Some letter)) cells word d (λ k e below. letters (suc k) e (omega arith)) (IsGrid-entry grid cell (Some letter) (letters 0 0 (omega arith)) is) (λ k below. shape.opens (get_or cells k d) ∙ open_cells (suc k) (omega arith))
    ∙ ap (λ board. with_entries board (entries_with board.entries (map (index_of grid) cells) word)) one

-- entering letters changes only the squares
letters_squares : (grid : Grid) (cells : List Cell) (word : List ℕ) → with_letters grid cells word ≡ record grid { squares = (with_letters grid cells word).squares }
letters_squares grid [] word = refl
letters_squares grid (cell ∷ cells) [] = refl
letters_squares grid (cell ∷ cells) (letter ∷ word) = letters_squares (with_entry grid cell (Some letter)) cells word

-- ---- placing a word

-- the state came from the one before by changing entries
abbrev pub IsPartly : State → State → Type 0
IsPartly before now = (position_of now ≡ holding (position_of before) (board_of now.grid).entries) × DiffersInEntries before now

pub IsPartly-itself : (state : State) → IsPartly state state
IsPartly-itself state = (refl, DiffersInEntries-itself state)

-- one more change of entries
pub IsPartly-then : (before now after_it : State) {entries : List (Option ℕ)} → IsPartly before now → (position_of after_it ≡ holding (position_of now) entries) × DiffersInEntries now after_it → IsPartly before after_it
IsPartly-then before now after_it {entries} partly done =
    let there : (board_of after_it.grid).entries ≡ entries = ap (λ p. p.board.entries) done.0 in (
      done.0 ∙ ap (λ p. holding p entries) partly.0 ∙ ap (holding (position_of before)) (sym there),
      DiffersInEntries-then before now after_it partly.1 done.1,
    )

-- the cells of a light are open
light_open : (grid : Grid) (light : ℕ) (d : Cell) → light < length (lights_of grid) → (k : ℕ) → k < length (cells_of (get_or (lights_of grid) light no_light)) → is_open grid (get_or (cells_of (get_or (lights_of grid) light no_light)) k d) ≡ true
light_open grid light d in_grid k below =
    let found = get_or (lights_of grid) light no_light in
    let within : k < found.size = omega (arith, length-line found.name.direction found.start found.size, below) in
    ap (is_open grid) (get_or-line found.name.direction found.start found.size k d within) ∙ cells_of_are_open grid light no_light in_grid k within

placing : (before now : State) (light : ℕ) (word : List ℕ) → IsGrid before.grid → light < length (lights_of before.grid) → All IsLetter word → length word ≡ (get_or (lights_of before.grid) light no_light).size
    → after before (word_placed (name_at before light) word) ≡ Ok now
    → (position_of now ≡ placed (position_of before) light word) × DiffersInEntries before now
placing before now light word is in_grid letters long made =
    let grid = before.grid in
    let found = get_or (lights_of grid) light no_light in
    let new = with_letters grid (cells_of found) word in
    let there = sym made ∙ ap (with_grid before) (word_accepted grid light word in_grid letters long) in
    let done : now ≡ record before { grid = new } = cc in
    let board = letters_board grid (cells_of found) word found.start letters is (light_open grid light found.start in_grid) in
    let cells : map (index_of grid) (cells_of found) ≡ light_at (board_of grid) light = sym (light_at-board grid light no_light in_grid) in (
      ap position_of done ∙ ap (λ b. record { board = b; words = before.words }) board ∙ ap (λ cs. holding (position_of before) (entries_with (board_of grid).entries cs word)) cells,
      subst (DiffersInEntries before) (sym done) (differs_in_squares before new (letters_squares grid (cells_of found) word) (ap (λ b. b.open_cells) board)),
    )

-- the state after placing a word of letters in a light
pub place_leads : (state : State) (light : ℕ) (word : List ℕ) → IsGrid state.grid → light < length (lights_of state.grid) → All IsLetter word → length word ≡ (get_or (lights_of state.grid) light no_light).size
    → (next : State) × (after state (word_placed (name_at state light) word) ≡ Ok next) × (position_of next ≡ placed (position_of state) light word)
place_leads state light word is in_grid letters long =
    let grid = state.grid in
    let found = get_or (lights_of grid) light no_light in
    let new = with_letters grid (cells_of found) word in
    let board = letters_board grid (cells_of found) word found.start letters is (light_open grid light found.start in_grid) in
    let cells : map (index_of grid) (cells_of found) ≡ light_at (board_of grid) light = sym (light_at-board grid light no_light in_grid) in (
      record state { grid = new },
      ap (with_grid state) (word_accepted grid light word in_grid letters long),
      ap (λ b. record { board = b; words = state.words }) board ∙ ap (λ cs. holding (position_of state) (entries_with (board_of grid).entries cs word)) cells,
    )

-- the index of a spelling is that of a known word
pub known_within : (state : State) (light index : ℕ) → light < length (board_of state.grid).lights → index < length (spellings_at (position_of state) light) → index < known_count state light
known_within state light index below within =
    let size = light_size state.grid light (light_of state light) (in_grid_light state.grid light below) refl in
    let many = length-map _ (λ (w : Entry). w.word) ∙ ap (λ n. length (known_words state.words n)) size in
    omega (arith, within, many)

-- placing a known word in a light
pub placing_known : (before now : State) (light index : ℕ) → IsWellFormed before → light < length (board_of before.grid).lights → index < length (spellings_at (position_of before) light)
    → after before (known_placed before light index) ≡ Ok now
    → (position_of now ≡ placed (position_of before) light (get_or (spellings_at (position_of before) light) index [])) × DiffersInEntries before now
placing_known before now light index formed below within made =
    let in_grid = in_grid_light before.grid light below in
    let found = light_of before light in
    let size = light_size before.grid light found in_grid refl in
    let known = known_words before.words found.size in
    let there = known_within before light index below within in
    let word : (entry_at known index).word ≡ get_or (spellings_at (position_of before) light) index [] =
    sym (get_or-map (λ (w : Entry). w.word) known index no_entry [] there) ∙ ap (λ n. get_or (map (λ (w : Entry). w.word) (known_words before.words n)) index []) (sym size) in
    subst (λ w. (position_of now ≡ placed (position_of before) light w) × DiffersInEntries before now) word
    (placing before now light (entry_at known index).word formed.grid in_grid (known_letters before light index formed.dictionary there) (known_length before light index formed.dictionary there) made)

-- ---- clearing a cell

pub clearing : (state : State) (cell : Cell) → IsGrid state.grid → is_open state.grid cell ≡ true
    → (position_of (record state { grid = with_entry state.grid cell None }) ≡ holding (position_of state) (set (board_of state.grid).entries (index_of state.grid cell) None)) × DiffersInEntries state (record state { grid = with_entry state.grid cell None })
clearing state cell is open_cell =
    let board = entry_board state.grid cell None is open_cell in (
      ap (λ b. record { board = b; words = state.words }) board,
      differs_in_squares state (with_entry state.grid cell None) refl (ap (λ b. b.open_cells) board),
    )

-- the cell at an index of a light
pub light_cell_at : (grid : Grid) (light pos : ℕ) (found : Light) (cell : Cell) → light < length (lights_of grid) → found ≡ get_or (lights_of grid) light no_light → pos < found.size → cell ≡ step found.name.direction found.start pos
    → (is_open grid cell ≡ true) × (index_of grid cell ≡ get_or (light_at (board_of grid) light) pos 0)
light_cell_at grid light pos found cell in_grid found_is within cell_is =
    let long : pos < length (cells_of found) = omega (arith, length-line found.name.direction found.start found.size, within) in (
      ap (is_open grid) (cell_is ∙ ap (λ l. step l.name.direction l.start pos) found_is) ∙ cells_of_are_open grid light no_light in_grid pos (subst (λ l. pos < l.size) found_is within),
      sym (ap (λ cs. get_or cs pos 0) (light_at-board grid light no_light in_grid ∙ ap (indices_of grid) (sym found_is))
          ∙ get_or-map (index_of grid) (cells_of found) pos found.start 0 long
          ∙ ap (index_of grid) (get_or-line found.name.direction found.start found.size pos found.start within ∙ sym cell_is)),
    )

pub differs_index : (before now : State) (cell : Cell) → DiffersInEntries before now → index_of now.grid cell ≡ index_of before.grid cell
differs_index before now cell differs = ap (λ s. index_of s.grid cell) differs
