-- Lemmas about writing lists of cells.
use Rattle.std.proofs.Common.{◌≡◌, ℕ, zero, suc, ◌+◌, ◌<◌, Bool, true, false, cond, not, List, [], ◌∷◌, ◌++◌, drop, length, get_or, set, Some, None, refl, sym, ◌∙◌, ap, arith}
use Rattle.std.specs.Prelude.{Option, Result, Ok, Err, slice_get}
use Rattle.std.proofs.lemmas.List.{drop_more}
use Rattle.xw_grid.specs.declared.cell.Cell.{Cell}
use Rattle.xw_grid.specs.declared.cell.Square.{Square}
use Rattle.xw_grid.specs.declared.cell.Square.TheVariants.{Open}
use Rattle.xw_grid.specs.declared.fault.GridFault.{GridFault}
use Rattle.xw_grid.specs.declared.fault.GridFault.TheVariants.{OutOfGrid, OnBlock}
use Rattle.xw_grid.specs.Grid.{Grid, IsGrid, is_inside, is_open, is_block, is_block_square, index_of}
use Rattle.xw_grid.specs.Edit.{set_entry, with_entry}
use Rattle.xw_feas.specs.declared.edit.Refusal.TheVariants as refusals
use Rattle.xw_feas.specs.Shape.{fault_at}
use Rattle.xw_feas.specs.State.{State, after, entered, then_write, write_list, with_grid, by_fault}
use Rattle.xw_grid.proofs.ChangeLemmas.{open_from_no_block}

-- ---- one cell

-- the result of writing an entry, by the fault of the cell
abbrev entry_by : Grid → Cell → Option ℕ → Option GridFault → Result Grid GridFault
entry_by grid cell letter None = Ok (with_entry grid cell letter)
entry_by grid cell letter (Some fault) = Err fault

entry_by_fault : (grid : Grid) (cell : Cell) (letter : Option ℕ) → set_entry grid cell letter ≡ entry_by grid cell letter (fault_at grid cell)
entry_by_fault grid cell letter = by_tests (is_inside grid cell) (is_block grid cell) where
  by_tests : (inside block : Bool) → cond {A = Result Grid GridFault} (not inside) (Err OutOfGrid) (cond {A = Result Grid GridFault} block (Err OnBlock) (Ok (with_entry grid cell letter))) ≡ entry_by grid cell letter (cond {A = Option GridFault} (not inside) (Some OutOfGrid) (cond {A = Option GridFault} block (Some OnBlock) None))
  by_tests false block = refl
  by_tests true true = refl
  by_tests true false = refl

pub entry_taken : (grid : Grid) (cell : Cell) (letter : Option ℕ) → fault_at grid cell ≡ None → set_entry grid cell letter ≡ Ok (with_entry grid cell letter)
entry_taken grid cell letter none = entry_by_fault grid cell letter ∙ ap (entry_by grid cell letter) none

entry_refused : (grid : Grid) (cell : Cell) (letter : Option ℕ) (fault : GridFault) → fault_at grid cell ≡ Some fault → set_entry grid cell letter ≡ Err fault
entry_refused grid cell letter fault found = entry_by_fault grid cell letter ∙ ap (entry_by grid cell letter) found

-- the same as an edit of a state
pub entered_made : (state : State) (cell : Cell) (letter : Option ℕ) → fault_at state.grid cell ≡ None → after state (entered cell letter) ≡ Ok (record state { grid = with_entry state.grid cell letter })
entered_made state cell (Some letter) none = ap (λ result. with_grid state (by_fault result)) (entry_taken state.grid cell (Some letter) none)
entered_made state cell None none = ap (λ result. with_grid state (by_fault result)) (entry_taken state.grid cell None none)

pub entered_refused : (state : State) (cell : Cell) (letter : Option ℕ) (fault : GridFault) → fault_at state.grid cell ≡ Some fault → after state (entered cell letter) ≡ Err (refusals.Grid fault)
entered_refused state cell (Some letter) fault found = ap (λ result. with_grid state (by_fault result)) (entry_refused state.grid cell (Some letter) fault found)
entered_refused state cell None fault found = ap (λ result. with_grid state (by_fault result)) (entry_refused state.grid cell None fault found)

-- a cell that can be written is inside the grid and not a block
taking : (grid : Grid) (cell : Cell) → fault_at grid cell ≡ None → (is_inside grid cell ≡ true) × (is_block grid cell ≡ false)
taking grid cell none = by_tests (is_inside grid cell) (is_block grid cell) refl refl none where
  by_tests : (inside block : Bool) → is_inside grid cell ≡ inside → is_block grid cell ≡ block → cond {A = Option GridFault} (not inside) (Some OutOfGrid) (cond {A = Option GridFault} block (Some OnBlock) None) ≡ None → (is_inside grid cell ≡ true) × (is_block grid cell ≡ false)
  by_tests true false inside block h = (inside, block)
  by_tests true true inside block h = cc
  by_tests false block' inside block h = cc

pub taking_is_open : (grid : Grid) (cell : Cell) → IsGrid grid → fault_at grid cell ≡ None → is_open grid cell ≡ true
taking_is_open grid cell is none = let found = taking grid cell none in open_from_no_block grid cell is found.0 found.1

-- writing a square that is not a block keeps the blocks
blocks_stay : (squares : List Square) (at index : ℕ) (letter : Option ℕ) → is_block_square (slice_get squares at) ≡ false → is_block_square (slice_get (set squares at (Open letter)) index) ≡ is_block_square (slice_get squares index)
blocks_stay [] at index letter h = refl
blocks_stay (square ∷ squares) zero zero letter h = sym h
blocks_stay (square ∷ squares) zero (suc index) letter h = refl
blocks_stay (square ∷ squares) (suc at) zero letter h = refl
blocks_stay (square ∷ squares) (suc at) (suc index) letter h = blocks_stay squares at index letter h

-- writing an entry does not change which cells can be written
pub fault_kept : (grid : Grid) (cell : Cell) (letter : Option ℕ) → fault_at grid cell ≡ None → (other : Cell) → fault_at (with_entry grid cell letter) other ≡ fault_at grid other
fault_kept grid cell letter none other = ap (λ b. cond {A = Option GridFault} (not (is_inside grid other)) (Some OutOfGrid) (cond {A = Option GridFault} b (Some OnBlock) None)) (kept (is_inside grid other)) where
  no_block : is_block_square (slice_get grid.squares (index_of grid cell)) ≡ false
  no_block =
      let found = taking grid cell none in
      ap (λ b. is_block_square (cond b (slice_get grid.squares (index_of grid cell)) None)) (sym found.0) ∙ found.1

  kept : (inside : Bool) → is_block_square (cond inside (slice_get (set grid.squares (index_of grid cell) (Open letter)) (index_of grid other)) None) ≡ is_block_square (cond inside (slice_get grid.squares (index_of grid other)) None)
  kept true = blocks_stay grid.squares (index_of grid cell) (index_of grid other) letter no_block
  kept false = refl

-- ---- a list

-- one more cell
pub write_more : (list : List (Cell × Option ℕ)) (grid : Grid) (k : ℕ) (written : Cell × Option ℕ) → k < length list → written ≡ get_or list k written → fault_at grid written.0 ≡ None
    → write_list (drop k list) grid ≡ write_list (drop (k + 1) list) (with_entry grid written.0 written.1)
write_more list grid k written below is none =
    ap (λ l. write_list l grid) (drop_more list k written below)
    ∙ ap (λ w. then_write (write_list (drop (k + 1) list)) (set_entry grid w.0 w.1)) (sym is)
    ∙ ap (then_write (write_list (drop (k + 1) list))) (entry_taken grid written.0 written.1 none)

-- the first cell that cannot be written refuses the list
pub write_refused : (list : List (Cell × Option ℕ)) (grid : Grid) (k : ℕ) (fault : GridFault) (d : Cell × Option ℕ) → k < length list
    → ((j : ℕ) → j < k → fault_at grid (get_or list j d).0 ≡ None) → fault_at grid (get_or list k d).0 ≡ Some fault → write_list list grid ≡ Err fault
write_refused [] grid k fault d below before here = absurd (omega (arith, below))
write_refused (written ∷ list) grid zero fault d below before here = ap (then_write (write_list list)) (entry_refused grid written.0 written.1 fault here)
write_refused (written ∷ list) grid (suc k) fault d below before here =
    let none : fault_at grid written.0 ≡ None = before 0 (omega arith) in
    let kept = fault_kept grid written.0 written.1 none in
    ap (then_write (write_list list)) (entry_taken grid written.0 written.1 none)
    ∙ write_refused list (with_entry grid written.0 written.1) k fault d (omega (arith, below)) (λ j lt. kept (get_or list j d).0 ∙ before (suc j) (omega (arith, lt))) (kept (get_or list k d).0 ∙ here)

-- one cell after a list
then_done : (result : Result Grid GridFault) → then_write (λ grid. Ok grid) result ≡ result
then_done (Ok grid) = refl
then_done (Err fault) = refl

pub write_list-push : (list : List (Cell × Option ℕ)) (grid : Grid) (written : Cell × Option ℕ) → write_list (list ++ written ∷ []) grid ≡ then_write (λ now. set_entry now written.0 written.1) (write_list list grid)
write_list-push [] grid written = then_done (set_entry grid written.0 written.1)
write_list-push (first ∷ list) grid written = by_first (set_entry grid first.0 first.1) (λ now. write_list-push list now written) where
  by_first : (result : Result Grid GridFault) → ((now : Grid) → write_list (list ++ written ∷ []) now ≡ then_write (λ g. set_entry g written.0 written.1) (write_list list now))
      → then_write (write_list (list ++ written ∷ [])) result ≡ then_write (λ g. set_entry g written.0 written.1) (then_write (write_list list) result)
  by_first (Ok now) later = later now
  by_first (Err fault) later = refl
