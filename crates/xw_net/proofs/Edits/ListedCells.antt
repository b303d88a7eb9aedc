-- The cells that an edit writes are in the grid.
use Rattle.std.proofs.Common.{◌≡◌, ℕ, zero, suc, ◌*◌, ◌<◌, Bool, true, false, cond, not, ◌&&◌, filter, List, [], ◌∷◌, map, length, get_or, Some, None, refl, sym, ◌∙◌, ap, subst, arith}
use Rattle.std.specs.Prelude.{Option, Result, Ok, Err, Contains, nat_le}
use Rattle.std.proofs.lemmas.List.FromFn.{get_or-map-range_with_len}
use Rattle.xw_grid.specs.declared.cell.Cell.{Cell}
use Rattle.xw_grid.specs.declared.fault.GridFault.TheVariants as grids
use Rattle.xw_grid.specs.Grid.{Grid, IsGrid, is_inside, is_block, cells, cell_at, entry}
use Rattle.xw_grid.specs.Light.{lights_of, index_named, no_light}
use Rattle.xw_grid.specs.Orbit.{orbit_of, is_in_orbit}
use Rattle.xw_grid.specs.Edit.{set_entry, with_entry}
use Rattle.xw_grid.proofs.GridLemmas.{cell_at-inside, length-cells}
use Rattle.xw_grid.proofs.LightLemmas.{length-line, get_or-line}
use Rattle.xw_grid.proofs.LightTableLemmas.{light_inside}
use Rattle.xw_feas.specs.declared.edit.Refusal.{Refusal}
use Rattle.xw_feas.specs.State.{State, Action, after, grid_after, letter_set, cell_cleared, word_placed, list_written, block_toggled, bar_toggled, symmetry_chosen, word_added, word_struck, least_chosen}
use Rattle.xw_feas.proofs.BoardLemmas.{length-lights}
use Rattle.xw_feas.proofs.WordsLemmas.{named_within}
use Rattle.xw_net.specs.Region.{same_entry, cells_named, cells_changed, cells_written}
use Rattle.xw_net.specs.Change.{entries_written, with_entry_of}
use Rattle.xw_net.proofs.Edits.KeptByEdits.{by_fault-Ok, grid_of_after}
use Rattle.xw_net.proofs.Edits.ChangeFacts.{size_kept}

abbrev inside_of : ℕ → ℕ → Cell → Bool
inside_of height width cell = (nat_le 1 cell.row && nat_le cell.row height) && (nat_le 1 cell.col && nat_le cell.col width)

-- grids of the same size have the same cells
pub inside_sized : (grid other : Grid) → other.width ≡ grid.width → other.height ≡ grid.height → (cell : Cell) → is_inside grid cell ≡ true → is_inside other cell ≡ true
inside_sized grid other wide high cell h = subst (λ n. inside_of n other.width cell ≡ true) (sym high) (subst (λ n. inside_of grid.height n cell ≡ true) (sym wide) h)

-- a listed cell is one of the written cells
written_cell : (grid : Grid) (written : List Cell) (listed : Cell × Option ℕ) (k : ℕ) → k < length (map (with_entry_of grid) written) → get_or (map (with_entry_of grid) written) k listed ≡ listed → Contains written listed.0
written_cell grid [] listed k below at = absurd (omega (arith, below))
written_cell grid (cell ∷ rest) listed zero below at = (0, omega arith, ap (λ l. l.0) at)
written_cell grid (cell ∷ rest) listed (suc k) below at = let later = written_cell grid rest listed k (omega (arith, below)) at in (suc later.0, omega (arith, later.1), later.2)

among_either : {X : Type 0} (passes : Bool) (first : X) (some all : List X) (x : X) → ((j : ℕ) → j < length some → get_or some j x ≡ x → Contains all x)
    → (k : ℕ) → k < length (cond passes (first ∷ some) some) → get_or (cond passes (first ∷ some) some) k x ≡ x → Contains (first ∷ all) x
among_either true first some all x rest zero below at = (0, omega arith, at)
among_either true first some all x rest (suc k) below at = let later = rest k (omega (arith, below)) at in (suc later.0, omega (arith, later.1), later.2)
among_either false first some all x rest k below at = let later = rest k below at in (suc later.0, omega (arith, later.1), later.2)

-- an element of a filtered list is in the list
among_all : {X : Type 0} (test : X → Bool) (xs : List X) (x : X) (k : ℕ) → k < length (filter test xs) → get_or (filter test xs) k x ≡ x → Contains xs x
among_all test [] x k below at = absurd (omega (arith, below))
among_all test (y ∷ ys) x k below at = among_either (test y) y (filter test ys) ys x (λ j. among_all test ys x j) k below at

only_cell : (cell other : Cell) → Contains (cell ∷ []) other → cell ≡ other
only_cell cell other (zero, below, at) = at
only_cell cell other (suc k, below, at) = absurd (omega (arith, below))

module _ (grid new : Grid) (is : IsGrid grid) where
  all_inside : (cell : Cell) → Contains (cells grid) cell → is_inside grid cell ≡ true
  all_inside cell (k, below, at) =
      let lt : k < grid.width * grid.height = omega (arith, below, length-cells grid) in
      subst (λ c. is_inside grid c ≡ true) (sym (get_or-map-range_with_len (cell_at grid) 0 (grid.width * grid.height) k k cell lt (omega arith)) ∙ at) (cell_at-inside grid k is lt)

  named_inside : (found : Option ℕ) → ((light : ℕ) → found ≡ Some light → light < length (lights_of grid)) → (cell : Cell) → Contains (cells_named grid found) cell → is_inside grid cell ≡ true
  named_inside None within cell (k, below, at) = absurd (omega (arith, below))
  named_inside (Some index) within cell (k, below, at) =
      let light = get_or (lights_of grid) index no_light in
      let under : k < light.size = omega (arith, below, length-line light.name.direction light.start light.size) in
      subst (λ c. is_inside grid c ≡ true) (sym (get_or-line light.name.direction light.start light.size k cell under) ∙ at) (light_inside grid index no_light (within index refl) k under)

  orbit_inside : (cell other : Cell) → Contains (orbit_of grid cell) other → is_inside grid other ≡ true
  orbit_inside cell other (k, below, at) = split (is_inside grid cell) k below at where
    split : (b : Bool) (j : ℕ) → j < length (cond b (filter (is_in_orbit grid cell) (cells grid)) []) → get_or (cond b (filter (is_in_orbit grid cell) (cells grid)) []) j other ≡ other → is_inside grid other ≡ true
    split true j lt here = all_inside other (among_all (is_in_orbit grid cell) (cells grid) other j lt here)
    split false j lt here = absurd (omega (arith, lt))

  changed_inside : (after_it : Result Grid Refusal) (other : Cell) → Contains (cells_changed grid after_it) other → is_inside grid other ≡ true
  changed_inside (Ok changed) other (k, below, at) = all_inside other (among_all (λ cell. not (same_entry (entry grid cell) (entry changed cell))) (cells grid) other k below at)
  changed_inside (Err refusal) other (k, below, at) = absurd (omega (arith, below))

  entry_inside : (cell : Cell) (letter : Option ℕ) → set_entry grid cell letter ≡ Ok new → is_inside grid cell ≡ true
  entry_inside cell letter ok = split (is_inside grid cell) (is_block grid cell) ok where
    split : (b block : Bool) → cond (not b) (Err grids.OutOfGrid) (cond block (Err grids.OnBlock) (Ok (with_entry grid cell letter))) ≡ Ok new → b ≡ true
    split true block h = refl
    split false block h = cc

  written_inside : (action : Action) → grid_after grid action ≡ Ok new → (cell : Cell) → Contains (cells_written grid action) cell → is_inside grid cell ≡ true
  written_inside (letter_set at letter) ok cell among = subst (λ c. is_inside grid c ≡ true) (only_cell at cell among) (entry_inside at (Some letter) (by_fault-Ok (set_entry grid at (Some letter)) new ok))
  written_inside (cell_cleared at) ok cell among = subst (λ c. is_inside grid c ≡ true) (only_cell at cell among) (entry_inside at None (by_fault-Ok (set_entry grid at None) new ok))
  written_inside (word_placed name word) ok cell among = named_inside (index_named (lights_of grid) name) (λ light found. omega (arith, named_within grid name light found, length-lights grid)) cell among
  written_inside (list_written list) ok cell among = changed_inside (grid_after grid (list_written list)) cell among
  written_inside (block_toggled at) ok cell among = orbit_inside at cell among
  written_inside (bar_toggled at side) ok cell (k, below, here) = absurd (omega (arith, below))
  written_inside (symmetry_chosen kind) ok cell (k, below, here) = absurd (omega (arith, below))
  written_inside (word_added word grade) ok cell (k, below, here) = absurd (omega (arith, below))
  written_inside (word_struck word) ok cell (k, below, here) = absurd (omega (arith, below))
  written_inside (least_chosen grade) ok cell (k, below, here) = absurd (omega (arith, below))

-- the cells that an edit writes are in the grid after it
pub edit_in_grid : (before now : State) (action : Action) (cells : List (Cell × Option ℕ)) → IsGrid before.grid → after before action ≡ Ok now → cells ≡ entries_written before.grid action
    → (listed : Cell × Option ℕ) → Contains cells listed → is_inside now.grid listed.0 ≡ true
edit_in_grid before now action cells is made are listed has =
    let grid_made = grid_of_after before now action made in
    let size = size_kept before.grid now.grid action is grid_made in
    let among = subst (λ ls. Contains ls listed) are has in
    inside_sized before.grid now.grid size.width size.height listed.0
    (written_inside before.grid now.grid is action grid_made listed.0 (written_cell before.grid (cells_written before.grid action) listed among.0 among.1 among.2))
