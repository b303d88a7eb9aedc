-- What writing a list of cells does to a state.
use Rattle.std.proofs.Common.{◌≡◌, ℕ, List, [], ◌∷◌, Option, refl, sym, ◌∙◌, ap, subst}
use Rattle.std.specs.Prelude.{All, Result, Ok}
use Rattle.std.proofs.lemmas.List.Elements.{All-head, All-tail, All-weaker}
use Rattle.xw_grid.specs.declared.cell.Cell.{Cell}
use Rattle.xw_grid.specs.Grid.{Grid, IsGrid}
use Rattle.xw_grid.specs.Edit.{with_entry}
use Rattle.xw_feas.specs.Board.{board_of}
use Rattle.xw_feas.specs.Engine.{IsEdited}
use Rattle.xw_feas.specs.Feasible.{Answers}
use Rattle.xw_feas.specs.State.{State, list_written, write_list, then_write, with_grid, by_fault}
use Rattle.xw_feas.specs.declared.edit.Refusal.{Refusal}
use Rattle.xw_feas.specs.declared.changed.Changed.{Changed}
use Rattle.xw_feas.proofs.ShapeLemmas.{open_takes}
use Rattle.xw_feas.proofs.EditsLemmas.{edit_done}
use Rattle.xw_search.specs.Position.{DiffersInEntries}
use Rattle.xw_search.proofs.StateLemmas.{IsGrid-entry, entry_board, differs_in_squares, differs_open, DiffersInEntries-itself, DiffersInEntries-then}
use Rattle.xw_search.specs.Writing.{entries_of, CanBeWritten, by_index, written_in}

-- ---- a list of cells

-- the list was written
pub record IsWritten (state : State) (list : List (Cell × Option ℕ)) : Type 0 where
  pub grid : Grid
  pub written : write_list list state.grid ≡ Ok grid
  pub entries : (board_of grid).entries ≡ written_in (entries_of state) (by_index state.grid list)
  pub rest : DiffersInEntries state (record state { grid = grid })

written : (list : List (Cell × Option ℕ)) (state : State) → IsGrid state.grid → All (CanBeWritten state.grid) list → IsWritten state list
written [] state is good = record { grid = state.grid; written = refl; entries = refl; rest = DiffersInEntries-itself state }
written (first ∷ list) state is good =
    let can = All-head (CanBeWritten state.grid) first list good in
    let grid = with_entry state.grid first.0 first.1 in
    let next : State = record state { grid = grid } in
    let board = entry_board state.grid first.0 first.1 is can.0 in
    let differs = differs_in_squares state grid refl (ap (λ b. b.open_cells) board) in
    let later = written list next (IsGrid-entry state.grid first.0 first.1 can.1 is)
    (All-weaker (CanBeWritten state.grid) (CanBeWritten grid) (λ other h. (differs_open state next other.0 differs ∙ h.0, h.1)) list (All-tail (CanBeWritten state.grid) first list good)) in
    record {
      grid = later.grid;
      written = ap (then_write (write_list list)) (open_takes state.grid first.0 first.1 can.0) ∙ later.written;
      entries = later.entries ∙ ap (λ b. written_in b.entries (by_index state.grid list)) board;
      rest = DiffersInEntries-then state next (record state { grid = later.grid }) differs later.rest;
    }

-- an edit that writes open cells is accepted
pub writing : (before now : State) (answers answers_now : Answers) (list : List (Cell × Option ℕ)) (result : Result Changed Refusal) → IsGrid before.grid → All (CanBeWritten before.grid) list
    → IsEdited before answers (list_written list) result now answers_now
    → (entries_of now ≡ written_in (entries_of before) (by_index before.grid list)) × DiffersInEntries before now
writing before now answers answers_now list result is good edited =
    let all = written list before is good in
    let done = edit_done before now (record before { grid = all.grid }) answers answers_now (list_written list) result (ap (λ r. with_grid before (by_fault r)) all.written) refl edited in (
      ap (λ (s : State). entries_of s) done ∙ all.entries,
      subst (DiffersInEntries before) (sym done) all.rest,
    )
