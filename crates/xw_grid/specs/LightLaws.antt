-- Laws about the lights of every grid.
use Rattle.std.specs.Prelude.{◌≡◌, ◌⊎◌, ◌↔◌, true, ℕ, ◌<◌, ◌≤◌, List, length, slice_index_or, All, Contains}
use Rattle.xw_grid.specs.declared.cell.Cell.{Cell}
use Rattle.xw_grid.specs.declared.cell.Direction.{Direction}
use Rattle.xw_grid.specs.declared.cell.Direction.TheVariants.{Across, Down}
use Rattle.xw_grid.specs.declared.cell.LightName.{LightName}
use Rattle.xw_grid.specs.declared.lights.Light.{Light}
use Rattle.xw_grid.specs.Grid.{Grid, IsGrid}
use Rattle.xw_grid.specs.Light.{IsLight, begins, cells_of, no_cell, number_at, lights_of, step}

-- the cells are a light of the grid, and its number is that of its first cell
abbrev pub IsLightOf : Grid → Light → Type 0
IsLightOf grid light = IsLight grid light.name.direction (cells_of light) × (light.name.number ≡ number_at grid light.start)

-- each entry of the list is a light
abbrev pub LightsAreLights : Type 0
LightsAreLights = (grid : Grid) → All (IsLightOf grid) (lights_of grid)

-- each light of the grid is in the list
abbrev pub LightsAreAll : Type 0
LightsAreAll = (grid : Grid) (direction : Direction) (light : List Cell) → IsLight grid direction light →
    (found : Light) × Contains (lights_of grid) found × (found.name.direction ≡ direction) × (cells_of found ≡ light)

-- a light begins at a cell if and only if the cell is joined to the next one and not to the
-- previous one
abbrev pub LightsBegin : Type 0
LightsBegin = (grid : Grid) (direction : Direction) (cell : Cell) →
    (begins grid direction cell ≡ true) ↔ ((light : List Cell) × IsLight grid direction light × (slice_index_or light 0 no_cell ≡ cell))

-- a name comes before another: by number, and across before down for one number
abbrev pub IsBefore : LightName → LightName → Type 0
IsBefore a b = (a.number < b.number) ⊎ ((a.number ≡ b.number) × (a.direction ≡ Across) × (b.direction ≡ Down))

-- the lights are in strict order of their names
abbrev pub AreOrdered : List Light → Type 0
AreOrdered lights = (i j : ℕ) (d : Light) → i < j → j < length lights → IsBefore (slice_index_or lights i d).name (slice_index_or lights j d).name

-- the lights of every grid are in strict order of their names
abbrev pub LightsAreOrdered : Type 0
LightsAreOrdered = (grid : Grid) → AreOrdered (lights_of grid)

-- if two lights of the same direction share a cell, they are the same light
abbrev pub AreApart : List Light → Type 0
AreApart lights = (i j : ℕ) (d : Light) (k l : ℕ) → i < length lights → j < length lights →
    (slice_index_or lights i d).name.direction ≡ (slice_index_or lights j d).name.direction →
    k < (slice_index_or lights i d).size → l < (slice_index_or lights j d).size →
    step (slice_index_or lights i d).name.direction (slice_index_or lights i d).start k ≡ step (slice_index_or lights j d).name.direction (slice_index_or lights j d).start l → i ≡ j

-- in every grid, lights of the same direction that share a cell are the same light
abbrev pub LightsAreApart : Type 0
LightsAreApart = (grid : Grid) → AreApart (lights_of grid)

-- if two lights share two cells, either the two lights are the same or the two cells are
abbrev pub LightsMeetOnce : Type 0
LightsMeetOnce = (grid : Grid) (a b : Light) (k l m n : ℕ) → Contains (lights_of grid) a → Contains (lights_of grid) b → k < a.size → m < a.size → l < b.size → n < b.size →
    step a.name.direction a.start k ≡ step b.name.direction b.start l → step a.name.direction a.start m ≡ step b.name.direction b.start n →
    (a ≡ b) ⊎ (step a.name.direction a.start k ≡ step a.name.direction a.start m)

-- the number of lights fits 16 bits, so a 16-bit count of clues is enough
abbrev pub LightsAreFew : Type 0
LightsAreFew = (grid : Grid) → IsGrid grid → length (lights_of grid) ≤ 64770
