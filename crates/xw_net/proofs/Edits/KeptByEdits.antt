-- What an edit keeps: the squares of the cells it does not write, and the known words of other
-- lengths.
use Rattle.std.proofs.Common.{◌≡◌, ℕ, ◌*◌, Bool, true, false, cond, not, List, [], ◌∷◌, map, length, get_or, eqb, Some, None, refl, sym, ◌∙◌, ap, subst, arith, inl, inr}
use Rattle.std.specs.Prelude.{Option, Ok, Err, Contains, slice_get, position, filter}
use Rattle.std.proofs.lemmas.Bool.{cases_lt, cases_Bool, eqb-true, false≢true}
use Rattle.std.proofs.lemmas.List.{get_or-map, length-map}
use Rattle.std.proofs.lemmas.List.Elements.{Contains-get_or}
use Rattle.std.proofs.lemmas.List.FromFn.{get_or-map-range_with_len}
use Rattle.std.proofs.lemmas.Option.{slice_get-get_or, slice_get_past}
use Rattle.xw_letters.specs.Letter.{folded}
use Rattle.xw_words.specs.Word.{is_bad_letter}
use Rattle.xw_grid.specs.declared.cell.Cell.{Cell}
use Rattle.xw_grid.specs.declared.cell.Square.{Square}
use Rattle.xw_grid.specs.declared.cell.Square.TheVariants.{Block, Open}
use Rattle.xw_grid.specs.declared.cell.LightName.{LightName}
use Rattle.xw_grid.specs.declared.lights.Light.{Light}
use Rattle.xw_grid.specs.declared.cell.Side.{Side}
use Rattle.xw_grid.specs.declared.cell.Symmetry.{Symmetry}
use Rattle.xw_grid.specs.declared.fault.GridFault.TheVariants as grids
use Rattle.xw_grid.specs.Grid.{Grid, IsGrid, is_inside, is_block, is_barred, is_open_square, letter_in, entry as grid_entry, index_of, cells, cell_at}
use Rattle.xw_grid.specs.Light.{lights_of, cells_of, index_named, no_light}
use Rattle.xw_grid.specs.Edit.{with_entry, set_entry, set_symmetry, toggle_block, toggle_bar, with_orbit, with_edges, turned, square_of}
use Rattle.xw_grid.specs.Orbit.{is_in_orbit, orbit_of}
use Rattle.xw_grid.proofs.GridLemmas.{index_of-cell_at, length-cells, cell_at-inside}
use Rattle.xw_feas.specs.declared.edit.Refusal.TheVariants as refusals
use Rattle.xw_feas.specs.Board.{board_of, entry, is_open}
use Rattle.xw_feas.specs.State.{Action, letter_set, cell_cleared, word_placed, list_written, block_toggled, bar_toggled, symmetry_chosen, word_added, word_struck, least_chosen, grid_after, by_fault, write_list, with_letters, place_word, placed_in, spelled_in}
use Rattle.xw_feas.proofs.BoardLemmas.{is_open-square, entry-square}
use Rattle.xw_feas.proofs.Elements.{contains_first, contains_later, contains_mapped, contains_filtered, slice_get-set_other}
use Rattle.xw_net.specs.Region.{cells_named, same_entry, cells_changed, edited_cells}
use Rattle.xw_net.proofs.Edits.WrittenCells.{StaysOrOpen, LeavesOpen, list_leaves}
pub use Rattle.xw_feas.proofs.JudgeLemmas.{by_fault-Ok, with_grid-Ok, with_words-Ok, grid_of_after}

-- ---- the grid

pub entry_written : (grid new : Grid) (cell : Cell) (letter : Option ℕ) → set_entry grid cell letter ≡ Ok new → with_entry grid cell letter ≡ new
entry_written grid new cell letter ok = by_tests (not (is_inside grid cell)) (is_block grid cell) ok where
  by_tests : (out block : Bool) → cond out (Err grids.OutOfGrid) (cond block (Err grids.OnBlock) (Ok (with_entry grid cell letter))) ≡ Ok new → with_entry grid cell letter ≡ new
  by_tests true block h = cc
  by_tests false true h = cc
  by_tests false false h = cc

-- the squares of all other cells and the size are unchanged
pub record IsWrittenAt (old new : Grid) (indices : List ℕ) : Type 0 where
  pub width : new.width ≡ old.width
  pub height : new.height ≡ old.height
  pub squares : (index : ℕ) → ¬ Contains indices index → slice_get new.squares index ≡ slice_get old.squares index

entry_kept : (grid new : Grid) (cell : Cell) (letter : Option ℕ) → set_entry grid cell letter ≡ Ok new → IsWrittenAt grid new (index_of grid cell ∷ [])
entry_kept grid new cell letter ok = subst (λ g. IsWrittenAt grid g (index_of grid cell ∷ [])) (entry_written grid new cell letter ok) (record {
  width = refl;
  height = refl;
  squares = λ index outside. slice_get-set_other grid.squares (index_of grid cell) index (Open letter) (λ e. outside (subst (λ p. Contains (index_of grid cell ∷ []) p) (sym e) (contains_first (index_of grid cell) [])));
})

-- placing a word writes the cells of its light only
letters_kept : (grid : Grid) (light_cells : List Cell) (letters : List ℕ) → IsWrittenAt grid (with_letters grid light_cells letters) (map (index_of grid) light_cells)
letters_kept grid [] letters = record { width = refl; height = refl; squares = λ index outside. refl }
letters_kept grid (cell ∷ light_cells) [] = record { width = refl; height = refl; squares = λ index outside. refl }
letters_kept grid (cell ∷ light_cells) (letter ∷ letters) =
    let rest = letters_kept (with_entry grid cell (Some letter)) light_cells letters in
    record {
      width = rest.width;
      height = rest.height;
      squares = λ index outside.
          rest.squares index (λ later. outside (contains_later index (index_of grid cell) (map (index_of grid) light_cells) later))
          ∙ slice_get-set_other grid.squares (index_of grid cell) index (Open (Some letter)) (λ e. outside (subst (λ p. Contains (index_of grid cell ∷ map (index_of grid) light_cells) p) (sym e) (contains_first (index_of grid cell) (map (index_of grid) light_cells))));
    }

word_kept : (grid new : Grid) (name : LightName) (bytes : List ℕ) → place_word grid name bytes ≡ Ok new → IsWrittenAt grid new (edited_cells grid (word_placed name bytes))
word_kept grid new name bytes ok = by_index (index_named (lights_of grid) name) ok where
  by_size : (light : Light) (fits : Bool) → cond fits (Ok (with_letters grid (cells_of light) (map folded bytes))) (Err refusals.PlaceLength) ≡ Ok new → IsWrittenAt grid new (map (index_of grid) (cells_of light))
  by_size light false h = cc
  by_size light true h =
      let is_new : with_letters grid (cells_of light) (map folded bytes) ≡ new = cc in
      subst (λ g. IsWrittenAt grid g (map (index_of grid) (cells_of light))) is_new (letters_kept grid (cells_of light) (map folded bytes))

  by_word : (light : Light) (bad : Option ℕ) → spelled_in grid light bad bytes ≡ Ok new → IsWrittenAt grid new (map (index_of grid) (cells_of light))
  by_word light (Some at) h = cc
  by_word light None h = by_size light (eqb (length bytes) light.size) h

  by_index : (found : Option ℕ) → placed_in grid found bytes ≡ Ok new → IsWrittenAt grid new (map (index_of grid) (cells_named grid found))
  by_index None h = cc
  by_index (Some index) h = by_word (get_or (lights_of grid) index no_light) (position is_bad_letter bytes) h

block_kept : (grid new : Grid) (cell : Cell) → IsGrid grid → toggle_block grid cell ≡ Ok new → IsWrittenAt grid new (map (index_of grid) (orbit_of grid cell))
block_kept grid new cell is ok = by_tests (is_inside grid cell) _ refl ok where
  value : Cell → Square
  value other = cond (is_in_orbit grid cell other) (turned (not (is_block grid cell)) (square_of grid other)) (square_of grid other)

  kept_at : is_inside grid cell ≡ true → (index : ℕ) → ¬ Contains (map (index_of grid) (orbit_of grid cell)) index → slice_get (map value (cells grid)) index ≡ slice_get grid.squares index
  kept_at inside index outside = elim (cases_lt index (length (cells grid))) [
    | inr past ↦ slice_get_past (map value (cells grid)) index (omega (arith, length-map (cells grid) value)) ∙ sym (slice_get_past grid.squares index (omega (arith, length-cells grid, is.squares)))
    | inl below ↦
        let here : get_or (cells grid) index (cell_at grid index) ≡ cell_at grid index = get_or-map-range_with_len (cell_at grid) 0 (grid.width * grid.height) index index (cell_at grid index) (omega (arith, length-cells grid)) (omega arith) in
        let among : Contains (cells grid) (cell_at grid index) = subst (Contains (cells grid)) here (Contains-get_or (cells grid) index (cell_at grid index) below) in
        let off : is_in_orbit grid cell (cell_at grid index) ≡ false = elim (cases_Bool (is_in_orbit grid cell (cell_at grid index))) [
          | inr outside_orbit ↦ outside_orbit
          | inl in_orbit ↦ absurd (outside (subst (Contains (map (index_of grid) (orbit_of grid cell))) (index_of-cell_at grid index)
              (contains_mapped (index_of grid) (orbit_of grid cell) (cell_at grid index)
              (rw inside (contains_filtered (is_in_orbit grid cell) (cells grid) (cell_at grid index) among in_orbit)))))
        ] in
        slice_get-get_or (map value (cells grid)) index Block (omega (arith, length-map (cells grid) value))
        ∙ ap Some (get_or-map value (cells grid) index (cell_at grid index) Block below ∙ ap value here ∙ rw off (ap (λ p. get_or grid.squares p Block) (index_of-cell_at grid index)))
        ∙ sym (slice_get-get_or grid.squares index Block (omega (arith, length-cells grid, is.squares)))
  ]

  by_tests : (inside occupied : Bool) → is_inside grid cell ≡ inside → cond (not inside) (Err grids.OutOfGrid) (cond occupied (Err grids.Occupied) (Ok (with_orbit grid cell (not (is_block grid cell))))) ≡ Ok new → IsWrittenAt grid new (map (index_of grid) (orbit_of grid cell))
  by_tests false occupied inside h = cc
  by_tests true true inside h = cc
  by_tests true false inside h =
      let is_new : with_orbit grid cell (not (is_block grid cell)) ≡ new = cc in
      subst (λ g. IsWrittenAt grid g (map (index_of grid) (orbit_of grid cell))) is_new (record { width = refl; height = refl; squares = kept_at inside })

same_squares : (grid : Grid) (indices : List ℕ) → IsWrittenAt grid grid indices
same_squares grid indices = record { width = refl; height = refl; squares = λ index outside. refl }

symmetry_kept : (grid new : Grid) (kind : Symmetry) → set_symmetry grid kind ≡ Ok new → IsWrittenAt grid new []
symmetry_kept grid new kind ok = by_test _ ok where
  by_test : (b : Bool) → cond b (Err grids.NotSquare) (Ok (record grid { symmetry = kind })) ≡ Ok new → IsWrittenAt grid new []
  by_test true h = cc
  by_test false h =
      let is_new : record grid { symmetry = kind } ≡ new = cc in
      subst (λ g. IsWrittenAt grid g []) is_new (record { width = refl; height = refl; squares = λ index outside. refl })

bar_kept : (grid new : Grid) (cell : Cell) (side : Side) → toggle_bar grid cell side ≡ Ok new → IsWrittenAt grid new []
bar_kept grid new cell side ok = by_tests _ _ ok where
  by_tests : (out border : Bool) → cond out (Err grids.OutOfGrid) (cond border (Err grids.Border) (Ok (with_edges grid cell side (not (is_barred grid cell side))))) ≡ Ok new → IsWrittenAt grid new []
  by_tests true border h = cc
  by_tests false true h = cc
  by_tests false false h =
      let is_new : with_edges grid cell side (not (is_barred grid cell side)) ≡ new = cc in
      subst (λ g. IsWrittenAt grid g []) is_new (record { width = refl; height = refl; squares = λ index outside. refl })

-- entries that compare as equal are equal
same_entries : (one other : Option ℕ) → same_entry one other ≡ true → one ≡ other
same_entries None None h = refl
same_entries None (Some y) h = absurd (false≢true h)
same_entries (Some x) None h = absurd (false≢true h)
same_entries (Some x) (Some y) h = ap Some (eqb-true x y h)

-- writing a list changes only the cells whose entry differs afterwards
list_kept : (grid new : Grid) (list : List (Cell × Option ℕ)) → IsGrid grid → write_list list grid ≡ Ok new → IsWrittenAt grid new (edited_cells grid (list_written list))
list_kept grid new list is ok = subst (λ r. IsWrittenAt grid new (map (index_of grid) (cells_changed grid (by_fault r)))) (sym ok) (record {
  width = ap (λ (g : Grid). g.width) leaves.alone;
  height = ap (λ (g : Grid). g.height) leaves.alone;
  squares = λ index outside. kept_at index outside (leaves.squares index);
}) where
  leaves : LeavesOpen grid new
  leaves = list_leaves list grid new ok

  test : Cell → Bool
  test cell = not (same_entry (grid_entry grid cell) (grid_entry new cell))

  kept_at : (index : ℕ) → ¬ Contains (map (index_of grid) (filter test (cells grid))) index → StaysOrOpen (slice_get grid.squares index) (slice_get new.squares index) → slice_get new.squares index ≡ slice_get grid.squares index
  kept_at index outside (inl same) = same
  kept_at index outside (inr (one, other, old, now)) = elim (cases_lt index (length (cells grid))) [
    | inr past ↦ let none = slice_get_past grid.squares index (omega (arith, past, length-cells grid, is.squares)) in cc
    | inl below ↦
        let cell = cell_at grid index in
        let here : get_or (cells grid) index (cell_at grid index) ≡ cell_at grid index = get_or-map-range_with_len (cell_at grid) 0 (grid.width * grid.height) index index (cell_at grid index) (omega (arith, below, length-cells grid)) (omega arith) in
        let among : Contains (cells grid) (cell_at grid index) = subst (Contains (cells grid)) here (Contains-get_or (cells grid) index (cell_at grid index) below) in
        let inside : is_inside grid (cell_at grid index) ≡ true = cell_at-inside grid index is (omega (arith, below, length-cells grid)) in
        let entry_old : grid_entry grid (cell_at grid index) ≡ one =
        ap (λ b. letter_in (cond b (slice_get grid.squares (index_of grid (cell_at grid index))) None)) inside ∙ ap (λ p. letter_in (slice_get grid.squares p)) (index_of-cell_at grid index) ∙ ap letter_in old in
        let entry_new : grid_entry new (cell_at grid index) ≡ other =
        ap (λ (g : Grid). grid_entry g (cell_at grid index)) leaves.alone
        ∙ ap (λ b. letter_in (cond b (slice_get new.squares (index_of grid (cell_at grid index))) None)) inside ∙ ap (λ p. letter_in (slice_get new.squares p)) (index_of-cell_at grid index) ∙ ap letter_in now in
        let same : one ≡ other = elim (cases_Bool (same_entry one other)) [
          | inl alike ↦ same_entries one other alike
          | inr apart ↦ absurd (outside (subst (Contains (map (index_of grid) (filter test (cells grid)))) (index_of-cell_at grid index)
              (contains_mapped (index_of grid) (filter test (cells grid)) (cell_at grid index)
              (contains_filtered test (cells grid) (cell_at grid index) among (ap (λ e. not (same_entry e (grid_entry new (cell_at grid index)))) entry_old ∙ ap (λ e. not (same_entry one e)) entry_new ∙ ap not apart)))))
        ] in
        now ∙ ap (λ e. Some (Open e)) (sym same) ∙ sym old
  ]

-- an edit writes its edited cells only
pub written_after : (grid new : Grid) (action : Action) → IsGrid grid → grid_after grid action ≡ Ok new → IsWrittenAt grid new (edited_cells grid action)
written_after grid new (letter_set cell letter) is h = entry_kept grid new cell (Some letter) (by_fault-Ok (set_entry grid cell (Some letter)) new h)
written_after grid new (cell_cleared cell) is h = entry_kept grid new cell None (by_fault-Ok (set_entry grid cell None) new h)
written_after grid new (word_placed name bytes) is h = word_kept grid new name bytes h
written_after grid new (list_written list) is h = list_kept grid new list is (by_fault-Ok (write_list list grid) new h)
written_after grid new (block_toggled cell) is h = block_kept grid new cell is (by_fault-Ok (toggle_block grid cell) new h)
written_after grid new (bar_toggled cell side) is h = bar_kept grid new cell side (by_fault-Ok (toggle_bar grid cell side) new h)
written_after grid new (symmetry_chosen kind) is h = symmetry_kept grid new kind (by_fault-Ok (set_symmetry grid kind) new h)
written_after grid new (word_added word grade) is h = let is_new : grid ≡ new = cc in subst (λ g. IsWrittenAt grid g []) is_new (same_squares grid [])
written_after grid new (word_struck word) is h = let is_new : grid ≡ new = cc in subst (λ g. IsWrittenAt grid g []) is_new (same_squares grid [])
written_after grid new (least_chosen grade) is h = let is_new : grid ≡ new = cc in subst (λ g. IsWrittenAt grid g []) is_new (same_squares grid [])

-- ---- the board

pub entry_after : (grid new : Grid) (indices : List ℕ) (index : ℕ) → IsWrittenAt grid new indices → ¬ Contains indices index → entry (board_of new) index ≡ entry (board_of grid) index
entry_after grid new indices index written outside = entry-square new index ∙ ap letter_in (written.squares index outside) ∙ sym (entry-square grid index)

pub open_after : (grid new : Grid) (indices : List ℕ) (index : ℕ) → IsWrittenAt grid new indices → ¬ Contains indices index → is_open (board_of new) index ≡ is_open (board_of grid) index
open_after grid new indices index written outside = is_open-square new index ∙ ap is_open_square (written.squares index outside) ∙ sym (is_open-square grid index)
