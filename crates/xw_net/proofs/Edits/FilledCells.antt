-- A cell in which an edit writes a letter was open.
use Rattle.std.proofs.Common.{◌≡◌, ℕ, zero, suc, ◌+◌, ◌-◌, ◌*◌, ◌<◌, Bool, true, false, cond, not, List, [], ◌∷◌, map, length, Some, None, refl, sym, ◌∙◌, ap, subst, arith}
use Rattle.std.specs.Prelude.{Option, Ok, Err, Contains, slice_get, is_some, is_none}
use Rattle.std.proofs.lemmas.Bool.{false≢true, and_parts}
use Rattle.std.proofs.lemmas.List.{get_or_default}
use Rattle.std.proofs.lemmas.Option.{slice_get-get_or}
use Rattle.xw_grid.specs.declared.cell.Cell.{Cell}
use Rattle.xw_grid.specs.declared.cell.Square.{Square}
use Rattle.xw_grid.specs.declared.cell.Square.TheVariants.{Block, Open}
use Rattle.xw_grid.specs.declared.fault.GridFault.TheVariants as grids
use Rattle.xw_grid.specs.Grid.{Grid, IsGrid, is_inside, is_block, index_of, is_open_square, is_block_square, letter_in}
use Rattle.xw_grid.specs.Light.{lights_of, index_named, no_light}
use Rattle.xw_grid.specs.Orbit.{is_in_orbit}
use Rattle.xw_grid.specs.Edit.{set_entry, toggle_block, turned, square_of, with_entry}
use Rattle.xw_grid.proofs.GridLemmas.{index_of-lt}
use Rattle.xw_grid.proofs.ChangeLemmas.{blocks_change_orbits}
use Rattle.xw_feas.specs.Board.{board_of, entry, is_open, light_at}
use Rattle.xw_feas.specs.State.{State, Action, grid_after, write_list, letter_set, cell_cleared, word_placed, list_written, block_toggled, bar_toggled, symmetry_chosen, word_added, word_struck, least_chosen}
use Rattle.xw_feas.specs.WellFormed.{IsLaidOut}
use Rattle.xw_feas.proofs.BoardLemmas.{is_open-square, entry-square, length-lights, light_at-board}
use Rattle.xw_feas.proofs.WordsLemmas.{named_within}
use Rattle.xw_net.specs.Change.{Fields, IsChange, indices_listed}
use Rattle.xw_net.specs.Begin.{is_fill}
use Rattle.xw_net.specs.Region.{cells_named, edited_cells}
use Rattle.xw_net.proofs.Edits.WrittenCells.{list_open}
use Rattle.xw_feas.proofs.Elements.{contains_mapped}
use Rattle.xw_net.proofs.Edits.KeptByEdits.{by_fault-Ok, grid_of_after}
use Rattle.xw_net.proofs.Edits.ChangeFacts.{written_indices}

-- the square of a cell of a grid
square_there : (grid : Grid) (cell : Cell) → IsGrid grid → is_inside grid cell ≡ true → slice_get grid.squares (index_of grid cell) ≡ Some (square_of grid cell)
square_there grid cell is inside = slice_get-get_or grid.squares (index_of grid cell) Block (let below = index_of-lt grid cell inside in subst (λ n. index_of grid cell < n) (sym is.squares) below)

is_open-there : (grid : Grid) (cell : Cell) → IsGrid grid → is_inside grid cell ≡ true → is_open (board_of grid) (index_of grid cell) ≡ is_open_square (Some (square_of grid cell))
is_open-there grid cell is inside = is_open-square grid (index_of grid cell) ∙ ap is_open_square (square_there grid cell is inside)

open_unless_block : (square : Square) → is_block_square (Some square) ≡ false → is_open_square (Some square) ≡ true
open_unless_block Block h = absurd (false≢true (sym h))
open_unless_block (Open entered) h = refl

-- an entry can only be written into a cell that is not a block
entry_open : (grid new : Grid) (cell : Cell) (letter : Option ℕ) → IsGrid grid → is_inside grid cell ≡ true → set_entry grid cell letter ≡ Ok new → is_open (board_of grid) (index_of grid cell) ≡ true
entry_open grid new cell letter is inside ok = by_tests (not (is_inside grid cell)) (is_block grid cell) refl ok where
  by_tests : (out block : Bool) → is_block grid cell ≡ block → cond out (Err grids.OutOfGrid) (cond block (Err grids.OnBlock) (Ok (with_entry grid cell letter))) ≡ Ok new → is_open (board_of grid) (index_of grid cell) ≡ true
  by_tests true block b h = cc
  by_tests false true b h = cc
  by_tests false false b h =
      is_open-there grid cell is inside
      ∙ open_unless_block (square_of grid cell) (ap is_block_square (sym (ap (λ i. cond i (slice_get grid.squares (index_of grid cell)) None) inside ∙ square_there grid cell is inside)) ∙ b)

-- a square with a letter was open, whether it was turned or not
turned_open : (square : Square) (painted blocked : Bool) → is_some (letter_in (Some (cond painted (turned blocked square) square))) ≡ true → is_open_square (Some square) ≡ true
turned_open Block true true h = absurd (false≢true h)
turned_open Block true false h = absurd (false≢true h)
turned_open Block false blocked h = absurd (false≢true h)
turned_open (Open entered) painted blocked h = refl

only_one : (index cell : ℕ) → Contains (cell ∷ []) index → cell ≡ index
only_one index cell (zero, below, at) = at
only_one index cell (suc k, below, at) = absurd (omega (arith, below))

in_none : (cells : List ℕ) (index : ℕ) → length cells ≡ 0 → Contains cells index → ⊥
in_none cells index none (k, below, at) = omega (arith, below, none)

module _ (grid new : Grid) (other : Cell) (is : IsGrid grid) (laid_out : IsLaidOut (board_of grid)) (inside : is_inside grid other ≡ true) where
  open_at : (light : ℕ) → Contains (light_at (board_of grid) light) (index_of grid other) → is_open (board_of grid) (index_of grid other) ≡ true
  open_at light (k, below, at) = subst (λ p. is_open (board_of grid) p ≡ true) (get_or_default (light_at (board_of grid) light) k 0 (index_of grid other) below ∙ at) (laid_out.cells_open light k below)

  open_found : (found : Option ℕ) → ((light : ℕ) → found ≡ Some light → light < length (lights_of grid)) → Contains (map (index_of grid) (cells_named grid found)) (index_of grid other) → is_open (board_of grid) (index_of grid other) ≡ true
  open_found None within among = absurd (in_none [] (index_of grid other) refl among)
  open_found (Some light) within among = open_at light (subst (λ indices. Contains indices (index_of grid other)) (sym (light_at-board grid light no_light (within light refl))) among)

  written_one : (cell : Cell) (letter : Option ℕ) → index_of grid cell ≡ index_of grid other → set_entry grid cell letter ≡ Ok new → is_open (board_of grid) (index_of grid other) ≡ true
  written_one cell letter same ok = by_inside (is_inside grid cell) refl where
    by_inside : (b : Bool) → is_inside grid cell ≡ b → is_open (board_of grid) (index_of grid other) ≡ true
    by_inside true within = subst (λ p. is_open (board_of grid) p ≡ true) same (entry_open grid new cell letter is within ok)
    by_inside false outside = absurd (refused (is_block grid cell) (sym (ap (λ i. cond (not i) (Err grids.OutOfGrid) (cond (is_block grid cell) (Err grids.OnBlock) (Ok (with_entry grid cell letter)))) outside) ∙ ok)) where
      refused : (block : Bool) → Err grids.OutOfGrid ≡ Ok new → ⊥
      refused block h = cc

  block_open : (cell : Cell) → toggle_block grid cell ≡ Ok new → index_of new other ≡ index_of grid other → is_inside new other ≡ true → is_some (entry (board_of new) (index_of grid other)) ≡ true → is_open (board_of grid) (index_of grid other) ≡ true
  block_open cell ok same inside_new has =
      let square = blocks_change_orbits grid new cell other is ok inside in
      let there : slice_get new.squares (index_of grid other) ≡ Some (cond (is_in_orbit grid cell other) (turned (not (is_block grid cell)) (square_of grid other)) (square_of grid other)) =
      ap (slice_get new.squares) (sym same) ∙ sym (ap (λ i. cond i (slice_get new.squares (index_of new other)) None) inside_new) ∙ square in
      is_open-there grid other is inside
      ∙ turned_open (square_of grid other) (is_in_orbit grid cell other) (not (is_block grid cell)) (ap (λ s. is_some (letter_in s)) (sym there) ∙ ap is_some (sym (entry-square new (index_of grid other))) ∙ has)

  pub open_written : (action : Action) → grid_after grid action ≡ Ok new → index_of new other ≡ index_of grid other → is_inside new other ≡ true → Contains (edited_cells grid action) (index_of grid other)
      → is_some (entry (board_of new) (index_of grid other)) ≡ true → is_open (board_of grid) (index_of grid other) ≡ true
  open_written (letter_set cell letter) ok same inside_new among has = written_one cell (Some letter) (only_one (index_of grid other) (index_of grid cell) among) (by_fault-Ok (set_entry grid cell (Some letter)) new ok)
  open_written (cell_cleared cell) ok same inside_new among has = written_one cell None (only_one (index_of grid other) (index_of grid cell) among) (by_fault-Ok (set_entry grid cell None) new ok)
  open_written (word_placed name word) ok same inside_new among has = open_found (index_named (lights_of grid) name) (λ light found. omega (arith, named_within grid name light found, length-lights grid)) among
  open_written (list_written list) ok same inside_new among has = list_open grid new list (index_of grid other) (by_fault-Ok (write_list list grid) new ok) has
  open_written (block_toggled cell) ok same inside_new among has = block_open cell (by_fault-Ok (toggle_block grid cell) new ok) same inside_new has
  open_written (bar_toggled cell side) ok same inside_new among has = absurd (in_none [] (index_of grid other) refl among)
  open_written (symmetry_chosen kind) ok same inside_new among has = absurd (in_none [] (index_of grid other) refl among)
  open_written (word_added word grade) ok same inside_new among has = absurd (in_none [] (index_of grid other) refl among)
  open_written (word_struck word) ok same inside_new among has = absurd (in_none [] (index_of grid other) refl among)
  open_written (least_chosen grade) ok same inside_new among has = absurd (in_none [] (index_of grid other) refl among)

-- a listed cell that was empty and has a letter now was open
pub filled_was_open : (before now : State) (action : Action) (change : Fields) → IsChange before now action change
    → (listed : Cell × Option ℕ) → Contains change.cells listed → is_inside before.grid listed.0 ≡ true → is_inside now.grid listed.0 ≡ true
    → is_fill (board_of now.grid) (index_of now.grid listed.0) listed.1 ≡ true → is_open (board_of before.grid) (index_of now.grid listed.0) ≡ true
filled_was_open before now action change is listed has inside inside_now fill =
    let same : index_of now.grid listed.0 ≡ index_of before.grid listed.0 = ap (λ w. (listed.0.row - 1) * w + (listed.0.col - 1)) is.width in
    let letter = (and_parts (is_none listed.1) (is_some (entry (board_of now.grid) (index_of now.grid listed.0))) fill).1 in
    let among : Contains (edited_cells before.grid action) (index_of before.grid listed.0) =
    subst (λ ps. Contains ps (index_of before.grid listed.0)) (ap (indices_listed before.grid) is.cells ∙ written_indices before.grid action) (contains_mapped (λ (l : Cell × Option ℕ). index_of before.grid l.0) change.cells listed has) in
    subst (λ p. is_open (board_of before.grid) p ≡ true) (sym same)
    (open_written before.grid now.grid listed.0 is.formed_before.grid is.formed_before.board inside action (grid_of_after before now action is.made) same inside_now among
    (subst (λ p. is_some (entry (board_of now.grid) p) ≡ true) same letter))
