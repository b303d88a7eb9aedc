-- Lights and their numbers.
use Rattle.std.specs.Prelude.{◌≡◌, ℕ, ◌+◌, ◌-◌, ◌<◌, ◌≤◌, Bool, true, false, not, ◌&&◌, ◌||◌, ◌==◌, List, [], ◌∷◌, ◌++◌, map, take, length, flat_map, count_by, Option, if◌then◌else◌, nat_le, nat_lt, slice_index_or, position, find, option_map}
use Rattle.std.specs.List.{range_with_len, prefix_len}
use Rattle.std.specs.Cmp.Lexicographic.{pointwise}
use Rattle.xw_grid.specs.declared.cell.Cell.{Cell}
use Rattle.xw_grid.specs.declared.cell.Side.{Side}
use Rattle.xw_grid.specs.declared.cell.Side.TheVariants.{Right, Below}
use Rattle.xw_grid.specs.declared.cell.Direction.{Direction}
use Rattle.xw_grid.specs.declared.cell.Direction.TheVariants.{Across, Down}
use Rattle.xw_grid.specs.declared.cell.LightName.{LightName}
use Rattle.xw_grid.specs.declared.lights.Light.{Light}
use Rattle.xw_grid.specs.Grid.{Grid, cells, index_of, is_open, is_barred, beyond, same_cell}

-- the side of a cell where the next cell in a direction is
abbrev pub side_towards : Direction → Side
side_towards Across = Right
side_towards Down = Below

-- the next cell in a direction
abbrev pub next : Direction → Cell → Cell
next direction cell = beyond (side_towards direction) cell

-- the previous cell in a direction
abbrev pub previous : Direction → Cell → Cell
previous Across cell = record { row = cell.row; col = cell.col - 1 }
previous Down cell = record { row = cell.row - 1; col = cell.col }

-- whether a cell and the next one are open, with no bar between them
abbrev pub is_joined : Grid → Direction → Cell → Bool
is_joined grid direction cell = (is_open grid cell && is_open grid (next direction cell)) && not (is_barred grid cell (side_towards direction))

-- a cell that no grid has
abbrev pub no_cell : Cell
no_cell = record { row = 0; col = 0 }

-- a light: at least two consecutive cells, each joined to the next, that cannot be extended at
-- either end
pub record IsLight (grid : Grid) (direction : Direction) (light : List Cell) : Type 0 where
  pub several : 2 ≤ length light
  pub follow : (k : ℕ) (d : Cell) → k + 1 < length light → slice_index_or light (k + 1) d ≡ next direction (slice_index_or light k d)
  pub joined : (k : ℕ) (d : Cell) → k + 1 < length light → is_joined grid direction (slice_index_or light k d) ≡ true
  pub no_cell_before : (before d : Cell) → next direction before ≡ slice_index_or light 0 d → is_joined grid direction before ≡ false
  pub no_cell_after : (d : Cell) → is_joined grid direction (slice_index_or light (length light - 1) d) ≡ false

-- whether a light begins at a cell: it is joined to the next cell and not to the previous one
abbrev pub begins : Grid → Direction → Cell → Bool
begins grid direction cell = is_joined grid direction cell && not (is_joined grid direction (previous direction cell))

-- whether a light in some direction begins at a cell
abbrev pub begins_some : Grid → Cell → Bool
begins_some grid cell = begins grid Across cell || begins grid Down cell

-- the number of a cell: one more than the number of earlier cells, in reading order, that begin a
-- light
abbrev pub number_at : Grid → Cell → ℕ
number_at grid cell = count_by (begins_some grid) (take (index_of grid cell) (cells grid)) + 1

-- the cell k steps after a cell
abbrev pub step : Direction → Cell → ℕ → Cell
step Across cell k = record { row = cell.row; col = cell.col + k }
step Down cell k = record { row = cell.row + k; col = cell.col }

-- `count` consecutive cells from a first one on
abbrev pub line : Direction → Cell → ℕ → List Cell
line direction first count = map (step direction first) (range_with_len 0 count)

-- the length of a row or column of the grid
abbrev pub extent : Grid → Direction → ℕ
extent grid Across = grid.width
extent grid Down = grid.height

-- the length of the light that begins at a cell: one more than the number of consecutive cells that
-- are joined to the next
abbrev pub run_from : Grid → Direction → Cell → ℕ
run_from grid direction first = prefix_len (is_joined grid direction) (line direction first (extent grid direction)) + 1

-- the light that begins at a cell, with its number and size
abbrev pub light_starting : Grid → Direction → Cell → Light
light_starting grid direction cell = record { name = record { number = number_at grid cell; direction = direction }; start = cell; size = run_from grid direction cell }

-- the light in a direction that begins at a cell, if one does
abbrev pub light_from : Grid → Cell → Direction → List Light
light_from grid cell direction = if begins grid direction cell then light_starting grid direction cell ∷ [] else []

-- the lights that begin at a cell
abbrev pub lights_at : Grid → Cell → List Light
lights_at grid cell = light_from grid cell Across ++ light_from grid cell Down

-- all lights, ordered by number, across before down
abbrev pub lights_of : Grid → List Light
lights_of grid = flat_map (lights_at grid) (cells grid)

-- the cells of a light, in order
abbrev pub cells_of : Light → List Cell
cells_of light = line light.name.direction light.start light.size

-- the default for an index without a light
abbrev pub no_light : Light
no_light = record { name = record { number = 0; direction = Across }; start = record { row = 0; col = 0 }; size = 0 }

-- ---- finding lights

-- whether two directions are the same
abbrev pub same_direction : Direction → Direction → Bool
same_direction Across Across = true
same_direction Across Down = false
same_direction Down Across = false
same_direction Down Down = true

-- whether two names are the same
abbrev pub same_name : LightName → LightName → Bool
same_name a b = (a.number == b.number) && same_direction a.direction b.direction

-- whether a name comes before another: by number, and across before down for one number
abbrev pub name_before : LightName → LightName → Bool
name_before a b = nat_lt a.number b.number || ((a.number == b.number) && (same_direction a.direction Across && same_direction b.direction Down))

-- the index of the light with a name
abbrev pub index_named : List Light → LightName → Option ℕ
index_named lights name = position (λ light. same_name light.name name) lights

-- whether a number is one of `count` consecutive numbers from `first` on
abbrev pub is_within : ℕ → ℕ → ℕ → Bool
is_within first count number = nat_le first number && nat_lt (number - first) count

-- whether a cell is one of `count` consecutive cells from `first` on
abbrev pub is_on_line : Direction → Cell → ℕ → Cell → Bool
is_on_line Across first count cell = (cell.row == first.row) && is_within first.col count cell.col
is_on_line Down first count cell = (cell.col == first.col) && is_within first.row count cell.row

-- whether a light passes through a cell
abbrev pub holds : Light → Cell → Bool
holds light cell = is_on_line light.name.direction light.start light.size cell

-- whether a light has this direction and passes through a cell
abbrev pub passes : Direction → Cell → Light → Bool
passes direction cell light = same_direction light.name.direction direction && holds light cell

-- the index of the light in a direction through a cell
abbrev pub index_through : List Light → Direction → Cell → Option ℕ
index_through lights direction cell = position (passes direction cell) lights

-- whether two lights have the same cells
abbrev pub have_same_cells : Light → Light → Bool
have_same_cells a b = pointwise same_cell (cells_of a) (cells_of b)

-- the index of the light that has the same cells as a given one
abbrev pub index_with_cells : List Light → Light → Option ℕ
index_with_cells lights light = position (have_same_cells light) lights

-- the number in a cell: that of a light that begins there
abbrev pub number_in : List Light → Cell → Option ℕ
number_in lights cell = option_map (λ light. light.name.number) (find (λ light. same_cell light.start cell) lights)
