-- Tables from each cell to the index of the light through it.
use Rattle.std.specs.Prelude.{◌≡◌, ℕ, ◌+◌, ◌-◌, ◌*◌, ◌<◌, Bool, true, false, ◌&&◌, List, length, Option, Some, None, if◌then◌else◌, nat_le, slice_get, slice_index_or}
use Rattle.xw_grid.specs.declared.cell.Cell.{Cell}
use Rattle.xw_grid.specs.declared.cell.Direction.{Direction}
use Rattle.xw_grid.specs.declared.cell.Direction.TheVariants.{Across, Down}
use Rattle.xw_grid.specs.declared.lights.Light.{Light}
use Rattle.std.specs.Option.{option_and_then, unwrap_or}
use Rattle.xw_grid.specs.Grid.{Grid, IsGrid, cell_at, same_cell}
use Rattle.xw_grid.specs.Light.{lights_of, index_through}

-- the entry for a cell of a table in reading order; none outside the grid
abbrev pub entry_for : ℕ → ℕ → List (Option ℕ) → Cell → Option ℕ
entry_for width height table cell =
    if (nat_le 1 cell.row && nat_le cell.row height) && (nat_le 1 cell.col && nat_le cell.col width) then slice_index_or table ((cell.row - 1) * width + (cell.col - 1)) None else None

-- the table has, for each cell, the index of the light in a direction through it
pub record IsLightTable (grid : Grid) (lights : List Light) (direction : Direction) (table : List (Option ℕ)) : Type 0 where
  pub long : length table ≡ grid.width * grid.height
  pub each : (k : ℕ) → k < grid.width * grid.height → slice_index_or table k None ≡ index_through lights direction (cell_at grid k)

-- the entry of a table for a square after an index was entered there; an earlier entry stays
abbrev pub marked : List (Option ℕ) → ℕ → ℕ → Option ℕ
marked table index square = Some (unwrap_or (slice_index_or table square None) index)

-- a table after an index was entered for each cell of a grid that passes a test and has no entry yet
abbrev pub IsEntered : Grid → (Cell → Bool) → ℕ → List (Option ℕ) → List (Option ℕ) → Type 0
IsEntered grid test index old new = (k : ℕ) → k < length old → slice_index_or new k None ≡ (if test (cell_at grid k) then marked old index k else slice_index_or old k None)

-- the invariant of `Lights`: the lights of some grid, with a table for each direction
pub record AreKept (width height : ℕ) (lights : List Light) (across down : List (Option ℕ)) : Type 0 where
  pub grid : Grid
  pub is : IsGrid grid
  pub wide : width ≡ grid.width
  pub high : height ≡ grid.height
  pub whole : lights ≡ lights_of grid
  pub by_row : IsLightTable grid lights Across across
  pub by_column : IsLightTable grid lights Down down

-- the answer is the first number below n that passes a test
abbrev pub IsFirstOf : (ℕ → Bool) → ℕ → Option ℕ → Type 0
IsFirstOf passes n (Some i) = (i < n) × (passes i ≡ true) × ((k : ℕ) → k < i → passes k ≡ false)
IsFirstOf passes n None = (k : ℕ) → k < n → passes k ≡ false

-- the number of the light at an index, if it begins at the cell
abbrev pub number_of_start : List Light → Option ℕ → Cell → Option ℕ
number_of_start lights index cell = option_and_then (λ light. if same_cell light.start cell then Some light.name.number else None) (option_and_then (slice_get lights) index)

-- whether there is a light and it passes a test
abbrev pub is_such : (Light → Bool) → Option Light → Bool
is_such test (Some light) = test light
is_such test None = false
