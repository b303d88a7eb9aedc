-- What entering a letter in a cell, or emptying it, does to a state.
use Rattle.std.proofs.Common.{◌≡◌, ℕ, ◌<◌, ◌*◌, Bool, true, false, cond, not, List, [], ◌∷◌, zero, suc, length, get_or, set, Option, Some, None, refl, sym, ◌∙◌, ap, subst, arith}
use Rattle.std.specs.Prelude.{Result, Ok, Err}
use Rattle.std.proofs.lemmas.Bool.{false≢true}
use Rattle.xw_grid.specs.declared.cell.Square.{Square}
use Rattle.xw_grid.specs.declared.cell.Square.TheVariants.{Block, Open}
use Rattle.xw_grid.specs.declared.cell.Cell.{Cell}
use Rattle.xw_grid.specs.declared.fault.GridFault.{GridFault}
use Rattle.xw_grid.specs.declared.fault.GridFault.TheVariants.{OutOfGrid, OnBlock}
use Rattle.xw_grid.specs.Grid.{Grid, IsGrid, is_block, is_block_square, is_open, is_open_square, square_at, cell_at, index_of}
use Rattle.xw_grid.specs.Edit.{set_entry, with_entry}
use Rattle.xw_grid.proofs.GridLemmas.{index_of-cell_at}
use Rattle.xw_grid.proofs.LightLemmas.{inside_from_open}
use Rattle.xw_feas.specs.Board.{board_of, entry, is_open as board_is_open}
use Rattle.xw_feas.specs.Engine.{IsEdited}
use Rattle.xw_feas.specs.Feasible.{Answers, IsFeasibleLetter}
use Rattle.xw_feas.specs.Trying.{MayTryLetter}
use Rattle.xw_feas.specs.State.{State, Action, after, letter_set, want_of, with_grid, by_fault}
use Rattle.xw_feas.specs.declared.edit.Refusal.{Refusal}
use Rattle.xw_feas.specs.declared.changed.Changed.{Changed}
use Rattle.xw_feas.proofs.BoardLemmas.{length-open_cells}
use Rattle.xw_feas.proofs.ChangesLemmas.{open_index}
use Rattle.xw_feas.proofs.EditsLemmas.{edit_done}
use Rattle.xw_search.specs.Position.{position_of, DiffersInEntries}
use Rattle.xw_search.specs.FeasibleLetters.{is_feasible_letter}
use Rattle.xw_search.proofs.FeasibleLettersLemmas.{is_feasible_letter-gives}
use Rattle.xw_search.proofs.StateLemmas.{entry_board, differs_in_squares}
use Rattle.xw_search.specs.Progress.{entries_of, IsLetterSet}

pub open_below : (flags : List Bool) (k : ℕ) → get_or flags k false ≡ true → k < length flags
open_below [] k h = absurd (false≢true h)
open_below (flag ∷ flags) zero h = omega arith
open_below (flag ∷ flags) (suc k) h = let below = open_below flags k h in omega arith

-- an open cell is on the board
pub open_within : (grid : Grid) (cell : ℕ) → IsGrid grid → board_is_open (board_of grid) cell ≡ true → cell < grid.width * grid.height
open_within grid cell is opens = let below = open_below (board_of grid).open_cells cell opens in omega (arith, length-open_cells grid, is.squares, below)

open_not_block : (grid : Grid) (cell : Cell) → is_open grid cell ≡ true → is_block grid cell ≡ false
open_not_block grid cell h = split (square_at grid cell) h where
  split : (o : Option Square) → is_open_square o ≡ true → is_block_square o ≡ false
  split None e = absurd (false≢true e)
  split (Some Block) e = absurd (false≢true e)
  split (Some (Open letter)) e = refl

-- an open cell takes a letter, or is emptied
set_accepted : (before : State) (cell : ℕ) (spot : Cell) (letter : Option ℕ) → IsGrid before.grid → board_is_open (board_of before.grid) cell ≡ true → spot ≡ cell_at before.grid cell
    → with_grid before (by_fault (set_entry before.grid spot letter)) ≡ Ok (record before { grid = with_entry before.grid spot letter })
set_accepted before cell spot letter is opens spot_is =
    let grid = before.grid in
    let within = open_within grid cell is opens in
    let open_cell : is_open grid spot ≡ true = ap (is_open grid) spot_is ∙ open_index grid cell is within ∙ opens in
    let inside = inside_from_open grid spot open_cell in
    let accepted : set_entry grid spot letter ≡ Ok (with_entry grid spot letter) =
    ap (λ b. cond {A = Result Grid GridFault} (not b) (Err OutOfGrid) (cond (is_block grid spot) (Err OnBlock) (Ok (with_entry grid spot letter)))) inside
    ∙ ap (λ b. cond {A = Result Grid GridFault} b (Err OnBlock) (Ok (with_entry grid spot letter))) (open_not_block grid spot open_cell) in
    ap (λ r. with_grid before (by_fault r)) accepted

set_leads : (before now : State) (cell : ℕ) (spot : Cell) (letter : Option ℕ) → IsGrid before.grid → board_is_open (board_of before.grid) cell ≡ true → spot ≡ cell_at before.grid cell
    → now ≡ record before { grid = with_entry before.grid spot letter } → (entries_of now ≡ set (entries_of before) cell letter) × DiffersInEntries before now
set_leads before now cell spot letter is opens spot_is done =
    let grid = before.grid in
    let within = open_within grid cell is opens in
    let open_cell : is_open grid spot ≡ true = ap (is_open grid) spot_is ∙ open_index grid cell is within ∙ opens in
    let index : index_of grid spot ≡ cell = ap (index_of grid) spot_is ∙ index_of-cell_at grid cell in
    let board = entry_board grid spot letter is open_cell in (
      ap (λ (s : State). entries_of s) done ∙ ap (λ b. b.entries) board ∙ ap (λ k. set (entries_of before) k letter) index,
      subst (DiffersInEntries before) (sym done) (differs_in_squares before (with_entry grid spot letter) refl (ap (λ b. b.open_cells) board)),
    )

pub entered : (before now : State) (answers answers_now : Answers) (cell : ℕ) (spot : Cell) (letter : Option ℕ) (action : Action) (result : Result Changed Refusal) → IsGrid before.grid → board_is_open (board_of before.grid) cell ≡ true → spot ≡ cell_at before.grid cell
    → after before action ≡ with_grid before (by_fault (set_entry before.grid spot letter)) → want_of before action ≡ None
    → IsEdited before answers action result now answers_now
    → (entries_of now ≡ set (entries_of before) cell letter) × DiffersInEntries before now
entered before now answers answers_now cell spot letter action result is opens spot_is action_is none edited =
    set_leads before now cell spot letter is opens spot_is
    (edit_done before now (record before { grid = with_entry before.grid spot letter }) answers answers_now action result (action_is ∙ set_accepted before cell spot letter is opens spot_is) none edited)

state_or : State → Result State Refusal → State
state_or none (Ok state) = state
state_or none (Err refusal) = none

-- a letter that was set
pub letter_entered : (before now : State) (cell : ℕ) (spot : Cell) (letter : ℕ) → IsGrid before.grid → board_is_open (board_of before.grid) cell ≡ true → spot ≡ cell_at before.grid cell
    → after before (letter_set spot letter) ≡ Ok now → IsLetterSet cell letter before now
unfolding state_or
letter_entered before now cell spot letter is opens spot_is made =
    let both = set_leads before now cell spot (Some letter) is opens spot_is (ap (state_or before) (sym made ∙ set_accepted before cell spot (Some letter) is opens spot_is)) in
    record { entries = both.0; rest = both.1 }

-- it may be tried
pub letter_may : (before : State) (cell : ℕ) (spot : Cell) (letter : ℕ) → IsGrid before.grid → board_is_open (board_of before.grid) cell ≡ true → spot ≡ cell_at before.grid cell
    → entry (board_of before.grid) cell ≡ None → is_feasible_letter (position_of before) cell letter ≡ true → MayTryLetter before spot letter
letter_may before cell spot letter is opens spot_is empty feasible =
    let grid = before.grid in
    let within = open_within grid cell is opens in
    let open_cell : is_open grid spot ≡ true = ap (is_open grid) spot_is ∙ open_index grid cell is within ∙ opens in
    let index : index_of grid spot ≡ cell = ap (index_of grid) spot_is ∙ index_of-cell_at grid cell in
    record {
      inside = inside_from_open grid spot open_cell;
      empty = ap (entry (board_of grid)) index ∙ empty;
      feasible = subst (λ k. IsFeasibleLetter (board_of grid) before.words k letter) (sym index) ∣ is_feasible_letter-gives (position_of before) cell letter feasible ∣₁;
    }
