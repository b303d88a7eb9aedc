-- The lights that commands name, and what is known of the numbers of cells.
use Rattle.std.specs.Prelude.{◌≡◌, ◌⊎◌, ℕ, ◌+◌, ◌<◌, Bool, List, Option, Some, All, option_map, slice_get}
use Rattle.xw_grid.specs.declared.cell.Cell.{Cell}
use Rattle.xw_grid.specs.declared.cell.LightName.{LightName}
use Rattle.xw_grid.specs.declared.lights.Light.{Light}
use Rattle.xw_grid.specs.Grid.{Grid, cell_at}
use Rattle.xw_grid.specs.Light.{begins_some}
use Rattle.xw_grid.specs.Orbit.{orbit_of}
use Rattle.xw_commands.specs.declared.command.LightArg.{LightArg}
use Rattle.xw_answers.specs.Text.{light_of}

abbrev pub name_of_light : LightArg → LightName
name_of_light named = record { number = named.number; direction = named.direction }

-- the light that a command names
abbrev pub light_named : Grid → LightArg → Option Light
light_named grid named = light_of grid (name_of_light named)

-- the first cell of the light that a command names
abbrev pub start_named : Grid → LightArg → Option Cell
start_named grid named = option_map (λ light. light.start) (light_named grid named)

-- what is known of cells, by their indices: whether they have a number
abbrev pub AreNumbered : Grid → List (Option Bool) → Type 0
AreNumbered grid known = (index : ℕ) (is : Bool) → slice_get known index ≡ Some (Some is) → begins_some grid (cell_at grid index) ≡ is

-- a cell is neither in this row nor in one beside it
abbrev pub AreApart : ℕ → Cell → Type 0
AreApart row cell = (row + 1 < cell.row) ⊎ (cell.row + 1 < row)

-- so is no cell of an orbit
abbrev pub IsApart : Grid → Cell → ℕ → Type 0
IsApart grid cell row = All (AreApart row) (orbit_of grid cell)
