-- A letter that may be tried can be written.
use Rattle.std.proofs.Common.{◌≡◌, ℕ, true, false, cond, not, ◌&&◌, Option, Some, None, refl, sym, ◌∙◌, ap}
use Rattle.std.proofs.Math.Logic.{∥∥₁_elim}
use Rattle.std.proofs.lemmas.Bool.{and_parts, false≢true}
use mathlib.Core.Bool.{Bool-set}
use Rattle.xw_grid.specs.declared.cell.Square.{Square}
use Rattle.xw_grid.specs.declared.cell.Square.TheVariants.{Block, Open}
use Rattle.xw_grid.specs.declared.cell.Cell.{Cell}
use Rattle.xw_grid.specs.declared.fault.GridFault.{GridFault}
use Rattle.xw_grid.specs.declared.fault.GridFault.TheVariants.{OutOfGrid, OnBlock}
use Rattle.xw_grid.specs.Grid.{Grid, IsGrid, is_block, is_block_square, is_open, is_open_square, square_at, index_of}
use Rattle.xw_grid.proofs.GridLemmas.{cell_at-index_of, index_of-lt}
use Rattle.xw_letters.specs.Letter.{is_capital}
use Rattle.xw_feas.specs.Board.{board_of, allows, entry, is_open as board_is_open}
use Rattle.xw_feas.specs.Shape.{fault_at}
use Rattle.xw_feas.specs.State.{State}
use Rattle.xw_feas.specs.Trying.{MayTryLetter}
use Rattle.xw_feas.proofs.ChangesLemmas.{open_index}

open_not_block : (grid : Grid) (cell : Cell) → is_open grid cell ≡ true → is_block grid cell ≡ false
open_not_block grid cell h = split (square_at grid cell) h where
  split : (o : Option Square) → is_open_square o ≡ true → is_block_square o ≡ false
  split None e = absurd (false≢true e)
  split (Some Block) e = absurd (false≢true e)
  split (Some (Open letter)) e = refl

-- its cell is no block
no_block : (state : State) (cell : Cell) (letter : ℕ) → IsGrid state.grid → MayTryLetter state cell letter → is_block state.grid cell ≡ false
no_block state cell letter is may =
    let grid = state.grid in
    let board = board_of grid in
    let index = index_of grid cell in
    ∥∥₁_elim may.feasible (Bool-set _ _) (λ found.
    let stands = found.1.letters_agree index letter found.2 in
    let opens = (and_parts (board_is_open board index) (is_capital letter) (and_parts (board_is_open board index && is_capital letter) (allows (entry board index) letter) stands).0).0 in
    open_not_block grid cell (ap (is_open grid) (sym (cell_at-index_of grid cell may.inside)) ∙ open_index grid index is (index_of-lt grid cell may.inside) ∙ opens))

-- so a letter can be written there
pub tried_takes : (state : State) (cell : Cell) (letter : ℕ) → IsGrid state.grid → MayTryLetter state cell letter → fault_at state.grid cell ≡ None
tried_takes state cell letter is may =
    ap (λ b. cond {A = Option GridFault} (not b) (Some OutOfGrid) (cond (is_block state.grid cell) (Some OnBlock) None)) may.inside
    ∙ ap (λ b. cond {A = Option GridFault} b (Some OnBlock) None) (no_block state cell letter is may)
