-- The cells that erase empties.
use Rattle.std.specs.Prelude.{ℕ, Bool, true, false, not, ◌&&◌, List, [], ◌∷◌, map, filter, Option, Some, None, is_some}
use Rattle.xw_grid.specs.declared.cell.Cell.{Cell}
use Rattle.xw_grid.specs.declared.cell.Direction.{Direction}
use Rattle.xw_grid.specs.declared.cell.Direction.TheVariants.{Across, Down}
use Rattle.xw_grid.specs.declared.lights.Light.{Light}
use Rattle.xw_grid.specs.Grid.{entry}
use Rattle.xw_grid.specs.Light.{cells_of, lights_of, index_through}
use Rattle.xw_feas.specs.State.{State}
use Rattle.xw_search.specs.OfState.{is_entered}

-- the direction of the lights that cross those of a direction
abbrev pub crossing : Direction → Direction
crossing Across = Down
crossing Down = Across

-- there is a light, and it is wholly entered
abbrev pub is_complete : State → Option ℕ → Bool
is_complete engine None = false
is_complete engine (Some light) = is_entered engine light

-- the light that crosses those of a direction at the cell is wholly entered
abbrev pub is_held : State → Direction → Cell → Bool
is_held engine direction cell = is_complete engine (index_through (lights_of engine.grid) (crossing direction) cell)

-- whether the cell is to be emptied: it has a letter, and no complete word crosses there if complete words are spared
abbrev pub is_erased : State → Bool → Direction → Cell → Bool
is_erased engine spares direction cell = is_some (entry engine.grid cell) && not (spares && is_held engine direction cell)

-- the cells of a light that are to be emptied
abbrev pub erased_if : State → Bool → Light → List Cell
erased_if engine spares light = filter (is_erased engine spares light.name.direction) (cells_of light)

-- the first list, or the second if the first is empty
abbrev pub or_else : List Cell → List Cell → List Cell
or_else [] others = others
or_else (cell ∷ cells) others = cell ∷ cells

-- the cells with a letter that belong to no complete crossing word; if there are none, all cells with a letter
abbrev pub erased_cells : State → Light → List Cell
erased_cells engine light = or_else (erased_if engine true light) (erased_if engine false light)

-- each of the cells, with no letter
abbrev pub emptied : List Cell → List (Cell × Option ℕ)
emptied cells = map (λ cell. (cell, None)) cells
