-- Entering a letter keeps the lights, the open cells and the dictionary.
use Rattle.std.proofs.Common.{◌≡◌, ℕ, Some, refl, sym, subst}
use Rattle.std.specs.Prelude.{Result, Ok, Err}
use Rattle.xw_grid.specs.declared.cell.Cell.{Cell}
use Rattle.xw_grid.specs.declared.fault.GridFault.{GridFault}
use Rattle.xw_grid.specs.Grid.{Grid, IsGrid}
use Rattle.xw_grid.specs.Edit.{set_entry}
use Rattle.xw_grid.proofs.ChangeLemmas.{letters_keep_shape}
use Rattle.xw_feas.specs.Engine.{IsEdited}
use Rattle.xw_feas.specs.Feasible.{Answers}
use Rattle.xw_feas.specs.Snapshot.{IsTwin}
use Rattle.xw_feas.specs.State.{State, letter_set, with_grid, by_fault}
use Rattle.xw_feas.specs.declared.changed.Changed.{Changed}
use Rattle.xw_feas.specs.declared.edit.Refusal.{Refusal}
use Rattle.xw_feas.proofs.SnapshotLemmas.{IsTwin-itself}

pub set_twin : (before now : State) (old new : Answers) (cell : Cell) (letter : ℕ) (result : Result Changed Refusal) → IsGrid before.grid → IsEdited before old (letter_set cell letter) result now new → IsTwin before now
set_twin before now old new cell letter (Ok changed) is edited = accepted (set_entry before.grid cell (Some letter)) refl edited.state where
  accepted : (found : Result Grid GridFault) → set_entry before.grid cell (Some letter) ≡ found → with_grid before (by_fault found) ≡ Ok now → IsTwin before now
  accepted (Ok grid) made at =
      let same : record before { grid = grid } ≡ now = cc in
      subst (IsTwin before) same (record { shape = letters_keep_shape before.grid grid cell (Some letter) is made; words = refl })
  accepted (Err fault) made at = cc
set_twin before now old new cell letter (Err refusal) is edited = subst (IsTwin before) (sym edited.state) (IsTwin-itself before)

-- the same fact about equal states
pub twin_of : {old new first second : State} → old ≡ first → new ≡ second → IsTwin first second → IsTwin old new
twin_of {old} {new} {first} {second} same same_new twin = subst (λ state. IsTwin state new) (sym same) (subst (IsTwin first) (sym same_new) twin)
