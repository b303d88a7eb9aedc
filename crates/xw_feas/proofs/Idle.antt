-- Edits that no answer depends on.
use Rattle.std.proofs.Common.{◌≡◌, ℕ, zero, suc, Bool, true, false, cond, not, List, [], ◌∷◌, set, eqb, Some, None, refl, sym, ◌∙◌, ap}
use Rattle.std.specs.Prelude.{Option, Ok, Err, slice_get}
use Rattle.std.proofs.lemmas.Bool.{eqb-true}
use Rattle.xw_grid.specs.declared.cell.Cell.{Cell}
use Rattle.xw_grid.specs.declared.cell.Square.{Square}
use Rattle.xw_grid.specs.declared.cell.Square.TheVariants.{Block, Open}
use Rattle.xw_grid.specs.declared.cell.Symmetry.{Symmetry}
use Rattle.xw_grid.specs.declared.fault.GridFault.TheVariants as grids
use Rattle.xw_grid.specs.Grid.{Grid, is_inside, is_block, is_block_square, entry, letter_in, index_of, square_at}
use Rattle.xw_grid.specs.Edit.{set_entry, with_entry, set_symmetry}
use Rattle.xw_feas.specs.Board.{board_of}
use Rattle.xw_feas.specs.Shape.{fault_at}
use Rattle.xw_feas.specs.State.{symmetry_chosen}
use Rattle.xw_feas.specs.Written.{same_entry as same_letter, is_changed}
use Rattle.xw_feas.specs.Layout.{IsIdle, layout_of}
use Rattle.xw_feas.proofs.JudgeLemmas.{by_fault-Ok}
use Rattle.xw_feas.proofs.WriteLemmas.{entry_taken}

-- setting an element to what it is changes nothing
set_itself : {X : Type 0} (xs : List X) (index : ℕ) (x : X) → ((y : X) → slice_get xs index ≡ Some y → x ≡ y) → set xs index x ≡ xs
set_itself [] index x same = refl
set_itself (y ∷ ys) zero x same = ap (λ z. z ∷ ys) (same y refl)
set_itself (y ∷ ys) (suc index) x same = ap (λ zs. y ∷ zs) (set_itself ys index x same)

entry_stays : (grid new : Grid) (cell : Cell) (letter : Option ℕ) → entry grid cell ≡ letter → set_entry grid cell letter ≡ Ok new → new ≡ grid
entry_stays grid new cell letter holds ok = by_tests (is_inside grid cell) (is_block grid cell) refl refl ok where
  by_square : (square : Square) → is_block_square (Some square) ≡ false → letter_in (Some square) ≡ letter → Open letter ≡ square
  by_square Block block h = cc
  by_square (Open other) block h = ap Open (sym h)

  by_tests : (inside block : Bool) → is_inside grid cell ≡ inside → is_block grid cell ≡ block → cond (not inside) (Err grids.OutOfGrid) (cond block (Err grids.OnBlock) (Ok (with_entry grid cell letter))) ≡ Ok new → new ≡ grid
  by_tests false block inside is h = cc
  by_tests true true inside is h = cc
  by_tests true false inside is h =
      let made : with_entry grid cell letter ≡ new = cc in
      let at : square_at grid cell ≡ slice_get grid.squares (index_of grid cell) = ap (λ b. cond b (slice_get grid.squares (index_of grid cell)) None) inside in
      sym made ∙ ap (λ (squares : List Square). record grid { squares = squares }) (set_itself grid.squares (index_of grid cell) (Open letter) (λ square found.
      by_square square (ap is_block_square (sym (at ∙ found)) ∙ is) (ap letter_in (sym (at ∙ found)) ∙ holds)))

pub symmetry_is_idle : (grid : Grid) (kind : Symmetry) → IsIdle grid (symmetry_chosen kind)
unfolding board_of
symmetry_is_idle grid kind new ok = by_test _ (by_fault-Ok (set_symmetry grid kind) new ok) where
  by_test : (wrong : Bool) → cond wrong (Err grids.NotSquare) (Ok (record grid { symmetry = kind })) ≡ Ok new → layout_of new ≡ layout_of grid
  by_test true h = cc
  by_test false h =
      let made : record grid { symmetry = kind } ≡ new = cc in
      sym (ap layout_of made)

-- an entry that does not differ is the same
unchanged : (letter entered : Option ℕ) → not (same_letter letter entered) ≡ false → entered ≡ letter
unchanged None None h = refl
unchanged None (Some other) h = cc
unchanged (Some letter) None h = cc
unchanged (Some letter) (Some other) h = ap Some (sym (eqb-true letter other (is_true (eqb letter other) h))) where
  is_true : (b : Bool) → not b ≡ false → b ≡ true
  is_true true h = refl
  is_true false h = cc

pub not_false : (b : Bool) → not b ≡ true → b ≡ false
not_false true h = cc
not_false false h = refl

-- writing the entry that is there changes nothing
pub entered_stays : (grid : Grid) (cell : Cell) (letter : Option ℕ) → fault_at grid cell ≡ None → is_changed grid (cell, letter) ≡ false → with_entry grid cell letter ≡ grid
entered_stays grid cell letter none same = entry_stays grid (with_entry grid cell letter) cell letter (unchanged letter (entry grid cell) same) (entry_taken grid cell letter none)
