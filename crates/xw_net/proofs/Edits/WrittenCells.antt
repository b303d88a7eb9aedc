-- What writing a list of cells keeps of a grid.
use Rattle.std.proofs.Common.{◌≡◌, ℕ, zero, suc, Bool, true, false, cond, not, List, [], ◌∷◌, set, Some, None, refl, sym, ◌∙◌, ap, subst, ◌⊎◌, inl, inr}
use Rattle.std.specs.Prelude.{Option, Result, Ok, Err, slice_get, is_some}
use Rattle.std.proofs.lemmas.Bool.{false≢true}
use Rattle.xw_grid.specs.declared.cell.Cell.{Cell}
use Rattle.xw_grid.specs.declared.cell.Square.{Square}
use Rattle.xw_grid.specs.declared.cell.Square.TheVariants.{Block, Open}
use Rattle.xw_grid.specs.declared.fault.GridFault.{GridFault}
use Rattle.xw_grid.specs.declared.fault.GridFault.TheVariants as grids
use Rattle.xw_grid.specs.Grid.{Grid, is_inside, is_block, is_block_square, is_open_square, letter_in, index_of}
use Rattle.xw_grid.specs.Edit.{with_entry, set_entry}
use Rattle.xw_feas.specs.Board.{board_of, entry, is_open}
use Rattle.xw_feas.specs.State.{then_write, write_list}
use Rattle.xw_feas.proofs.BoardLemmas.{is_open-square, entry-square}

-- a square stays, or is open before and after
abbrev pub StaysOrOpen : Option Square → Option Square → Type 0
StaysOrOpen old new = (new ≡ old) ⊎ ((one : Option ℕ) × (other : Option ℕ) × (old ≡ Some (Open one)) × (new ≡ Some (Open other)))

stays_then : (first second third : Option Square) → StaysOrOpen first second → StaysOrOpen second third → StaysOrOpen first third
stays_then first second third (inl a) (inl b) = inl (b ∙ a)
stays_then first second third (inl a) (inr (one, other, old, new)) = inr (one, other, sym a ∙ old, new)
stays_then first second third (inr (one, other, old, new)) (inl b) = inr (one, other, old, b ∙ new)
stays_then first second third (inr (one, other, old, new)) (inr (one', other', old', new')) = inr (one, other', old, new')

write_stays : (squares : List Square) (at index : ℕ) (letter : Option ℕ) → is_block_square (slice_get squares at) ≡ false → StaysOrOpen (slice_get squares index) (slice_get (set squares at (Open letter)) index)
write_stays [] at index letter h = inl refl
write_stays (Open entered ∷ squares) zero zero letter h = inr (entered, letter, refl, refl)
write_stays (Block ∷ squares) zero zero letter h = absurd (false≢true (sym h))
write_stays (square ∷ squares) zero (suc index) letter h = inl refl
write_stays (square ∷ squares) (suc at) zero letter h = inl refl
write_stays (square ∷ squares) (suc at) (suc index) letter h = write_stays squares at index letter h

-- only squares change, and those are open before and after
pub record LeavesOpen (old new : Grid) : Type 0 where
  pub alone : new ≡ record old { squares = new.squares }
  pub squares : (index : ℕ) → StaysOrOpen (slice_get old.squares index) (slice_get new.squares index)

entry_leaves : (grid new : Grid) (cell : Cell) (letter : Option ℕ) → set_entry grid cell letter ≡ Ok new → LeavesOpen grid new
entry_leaves grid new cell letter ok = by_tests (is_inside grid cell) (is_block grid cell) refl refl ok where
  by_tests : (inside block : Bool) → is_inside grid cell ≡ inside → is_block grid cell ≡ block → cond (not inside) (Err grids.OutOfGrid) (cond block (Err grids.OnBlock) (Ok (with_entry grid cell letter))) ≡ Ok new → LeavesOpen grid new
  by_tests false block' inside block h = cc
  by_tests true true inside block h = cc
  by_tests true false inside block h =
      let made : with_entry grid cell letter ≡ new = cc in
      subst (LeavesOpen grid) made (record {
        alone = refl;
        squares = λ index. write_stays grid.squares (index_of grid cell) index letter (ap (λ b. is_block_square (cond b (slice_get grid.squares (index_of grid cell)) None)) (sym inside) ∙ block);
      })

pub list_leaves : (list : List (Cell × Option ℕ)) (grid new : Grid) → write_list list grid ≡ Ok new → LeavesOpen grid new
list_leaves [] grid new h =
    let same : grid ≡ new = cc in
    subst (LeavesOpen grid) same (record { alone = refl; squares = λ index. inl refl })
list_leaves (written ∷ list) grid new h = by_first (set_entry grid written.0 written.1) refl (λ next. list_leaves list next new) h where
  by_first : (first : Result Grid GridFault) → set_entry grid written.0 written.1 ≡ first → ((next : Grid) → write_list list next ≡ Ok new → LeavesOpen next new) → then_write (write_list list) first ≡ Ok new → LeavesOpen grid new
  by_first (Ok next) is later h =
      let first = entry_leaves grid next written.0 written.1 is in
      let rest = later next h in
      record {
        alone = rest.alone ∙ ap (λ (g : Grid). record g { squares = new.squares }) first.alone;
        squares = λ index. stays_then _ _ _ (first.squares index) (rest.squares index);
      }
  by_first (Err fault) is later h = cc

lettered_is_open : (square : Option Square) → is_some (letter_in square) ≡ true → is_open_square square ≡ true
lettered_is_open (Some (Open entered)) h = refl
lettered_is_open (Some Block) h = absurd (false≢true h)
lettered_is_open None h = absurd (false≢true h)

-- a cell that has a letter afterwards was open
pub list_open : (grid new : Grid) (list : List (Cell × Option ℕ)) (index : ℕ) → write_list list grid ≡ Ok new → is_some (entry (board_of new) index) ≡ true → is_open (board_of grid) index ≡ true
list_open grid new list index ok has = is_open-square grid index ∙ by_square ((list_leaves list grid new ok).squares index) where
  by_square : StaysOrOpen (slice_get grid.squares index) (slice_get new.squares index) → is_open_square (slice_get grid.squares index) ≡ true
  by_square (inl same) = lettered_is_open (slice_get grid.squares index) (ap (λ s. is_some (letter_in s)) (sym same) ∙ ap is_some (sym (entry-square new index)) ∙ has)
  by_square (inr (one, other, old, now)) = ap is_open_square old
