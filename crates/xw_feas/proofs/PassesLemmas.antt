-- The lights through a cell are those that a search finds there.
use Rattle.std.proofs.Common.{◌≡◌, ℕ, ◌+◌, sym, ◌∙◌, ap, subst, arith, inl, inr, List, Some}
use Rattle.std.specs.Prelude.{◌⊎◌}
use Rattle.xw_grid.specs.declared.cell.Cell.{Cell}
use Rattle.xw_grid.specs.declared.cell.Direction.{Direction}
use Rattle.xw_grid.specs.declared.cell.Direction.TheVariants.{Across, Down}
use Rattle.xw_grid.specs.declared.lights.Light.{Light}
use Rattle.xw_grid.specs.Grid.{Grid, cell_at}
use Rattle.xw_grid.specs.Light.{lights_of, index_through}
use Rattle.xw_feas.specs.Board.{Board, board_of}
use Rattle.xw_feas.specs.Passes.{Passes}
use Rattle.xw_feas.proofs.CrossingLemmas.{towards, found_at, through_at}

module _ (grid : Grid) (board : Board) (view : board_of grid ≡ board) (lights : List Light) (same : lights ≡ lights_of grid) (index : ℕ) (cell : Cell) (at : cell ≡ cell_at grid index) where
  found_there : (direction : Direction) → index_through lights direction cell ≡ index_through (lights_of grid) direction (cell_at grid index)
  found_there direction = ap (λ l. index_through l direction cell) same ∙ ap (index_through (lights_of grid) direction) at

  pub passes_found : (direction : Direction) (light : ℕ) → index_through lights direction cell ≡ Some light → Passes board index light
  passes_found direction light found =
      let crossing = found_at grid direction (light + 1) light index (sym (found_there direction) ∙ found) (λ e. omega arith) in
      subst (λ b. Passes b index light) view (crossing.in_board, (crossing.position, crossing.below, crossing.meets))

  pub passes_only : (light : ℕ) → Passes board index light → (index_through lights Across cell ≡ Some light) ⊎ (index_through lights Down cell ≡ Some light)
  passes_only light passes = by_direction (towards grid light) (through_at grid light there.1.0 index there.1.1 there.1.2) where
    there : Passes (board_of grid) index light
    there = subst (λ b. Passes b index light) (sym view) passes

    by_direction : (direction : Direction) → index_through (lights_of grid) direction (cell_at grid index) ≡ Some light → (index_through lights Across cell ≡ Some light) ⊎ (index_through lights Down cell ≡ Some light)
    by_direction Across found = inl (found_there Across ∙ found)
    by_direction Down found = inr (found_there Down ∙ found)
