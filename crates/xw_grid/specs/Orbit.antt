-- The symmetry of a grid, and the orbits of cells and edges under it.
use Rattle.std.specs.Prelude.{◌≡◌, ◌⊎◌, ◌↔◌, true, false, ℕ, ◌+◌, ◌-◌, Bool, ◌&&◌, ◌||◌, List, [], ◌∷◌, length, map, filter, zip, nat_eq, nat_lt, ◌<◌, ◌≤◌, Option, Some, None, if◌then◌else◌, Contains}
use Rattle.std.specs.List.{list_any, range_with_len}
use Rattle.xw_grid.specs.declared.cell.Cell.{Cell}
use Rattle.xw_grid.specs.declared.cell.Side.{Side}
use Rattle.xw_grid.specs.declared.cell.Edge.{Edge}
use Rattle.xw_grid.specs.declared.cell.Symmetry.{Symmetry}
use Rattle.xw_grid.specs.declared.cell.Symmetry.TheVariants as kinds
use Rattle.xw_grid.specs.Grid.{Grid, IsGrid, is_inside, is_edge, cells, cell_in, same_cell, beyond}

-- the image of a cell under a symmetry, in a grid of this width and height
abbrev pub moved_by : Symmetry → ℕ → ℕ → Cell → Cell
moved_by kinds.None width height cell = cell
moved_by kinds.Half width height cell = record { row = height + 1 - cell.row; col = width + 1 - cell.col }
moved_by kinds.Quarter width height cell = record { row = cell.col; col = width + 1 - cell.row }
moved_by kinds.LeftRight width height cell = record { row = cell.row; col = width + 1 - cell.col }
moved_by kinds.UpDown width height cell = record { row = height + 1 - cell.row; col = cell.col }

-- the image of a cell under the symmetry of a grid
abbrev pub moved : Grid → Cell → Cell
moved grid cell = moved_by grid.symmetry grid.width grid.height cell

-- the orbit of a cell as a relation: the least set that contains the cell and, with each member,
-- its image
pub data InOrbit (grid : Grid) (cell : Cell) : Cell → Type 0 where
  itself : InOrbit grid cell cell
  image : (member : Cell) → InOrbit grid cell member → InOrbit grid cell (moved grid member)

-- a cell and its images under one, two and three moves; a fourth move leads back to the cell
abbrev pub images_of : Grid → Cell → List Cell
images_of grid cell = cell ∷ moved grid cell ∷ moved grid (moved grid cell) ∷ moved grid (moved grid (moved grid cell)) ∷ []

-- whether a cell is in the orbit of another
abbrev pub is_in_orbit : Grid → Cell → Cell → Bool
is_in_orbit grid cell other = list_any (same_cell other) (images_of grid cell)

-- the orbit of a cell in reading order; none for a cell outside the grid
abbrev pub orbit_of : Grid → Cell → List Cell
orbit_of grid cell = if is_inside grid cell then filter (is_in_orbit grid cell) (cells grid) else []

-- the cells whose index is in a list and from `from` up to `end`, in reading order
abbrev pub cells_among : ℕ → List ℕ → ℕ → ℕ → List Cell
cells_among width squares from end = map (cell_in width) (filter (λ index. list_any (nat_eq index) squares) (range_with_len from (end - from)))

-- the lesser of two numbers, where one below `from` does not count
abbrev pub nearer : ℕ → ℕ → Option ℕ → Option ℕ
nearer from index (Some other) = if nat_lt index from || nat_lt other index then Some other else Some index
nearer from index None = if nat_lt index from then None else Some index

-- the answer is the least number from `from` on that passes a test
abbrev pub IsLeastFrom : ℕ → (ℕ → Bool) → Option ℕ → Type 0
IsLeastFrom from passes (Some index) = (from ≤ index) × (passes index ≡ true) × ((k : ℕ) → from ≤ k → k < index → passes k ≡ false)
IsLeastFrom from passes None = (k : ℕ) → from ≤ k → passes k ≡ false

-- whether an edge is the one between a pair of cells
abbrev pub is_between : Cell → Side → Cell × Cell → Bool
is_between cell side pair = (same_cell cell pair.0 && same_cell (beyond side cell) pair.1) || (same_cell cell pair.1 && same_cell (beyond side cell) pair.0)

-- whether an edge is in the orbit of another: it is between the images of that edge's two cells
abbrev pub is_in_edge_orbit : Grid → Cell → Side → Cell → Side → Bool
is_in_edge_orbit grid cell side other other_side = list_any (is_between other other_side) (zip (images_of grid cell) (images_of grid (beyond side cell)))

-- the edge is the one between two cells
abbrev pub IsEdgeBetween : Cell → Cell → Edge → Type 0
IsEdgeBetween a b edge = ((edge.cell ≡ a) × (beyond edge.side edge.cell ≡ b)) ⊎ ((edge.cell ≡ b) × (beyond edge.side edge.cell ≡ a))

-- the least set that contains an edge and, with each member, the edge between the images of its two cells
pub data InEdgeOrbit (grid : Grid) (edge : Edge) : Edge → Type 0 where
  edge_itself : InEdgeOrbit grid edge edge
  edge_image : (member next : Edge) → InEdgeOrbit grid edge member → IsEdgeBetween (moved grid member.cell) (moved grid (beyond member.side member.cell)) next → InEdgeOrbit grid edge next

-- two cells share an edge
abbrev pub AreNeighbours : Cell → Cell → Type 0
AreNeighbours a b = (edge : Edge) × IsEdgeBetween a b edge

-- each edge of a list is between the cells at the same index of two other lists
abbrev pub AreEdgesBetween : List Cell → List Cell → List Edge → Type 0
AreEdgesBetween [] [] [] = Unit {0}
AreEdgesBetween (a ∷ rest_a) (b ∷ rest_b) (edge ∷ edges) = IsEdgeBetween a b edge × AreEdgesBetween rest_a rest_b edges
AreEdgesBetween rest_a rest_b edges = ⊥

-- the test `is_in_orbit` decides the relation `InOrbit`
abbrev pub OrbitIsLeast : Type 0
OrbitIsLeast = (grid : Grid) (cell other : Cell) → IsGrid grid → is_inside grid cell ≡ true → (is_in_orbit grid cell other ≡ true) ↔ InOrbit grid cell other

-- the test `is_in_edge_orbit` decides the relation `InEdgeOrbit`
abbrev pub EdgeOrbitIsLeast : Type 0
EdgeOrbitIsLeast = (grid : Grid) (edge other : Edge) → IsGrid grid → is_edge grid edge.cell edge.side ≡ true →
    (is_in_edge_orbit grid edge.cell edge.side other.cell other.side ≡ true) ↔ InEdgeOrbit grid edge other

-- no orbit has more than four cells
abbrev pub OrbitsAreSmall : Type 0
OrbitsAreSmall = (grid : Grid) (cell : Cell) → IsGrid grid → length (orbit_of grid cell) ≤ 4

-- four edges contain the whole orbit of an edge
abbrev pub EdgeOrbitsAreSmall : Type 0
EdgeOrbitsAreSmall = (grid : Grid) (cell : Cell) (side : Side) → IsGrid grid → is_edge grid cell side ≡ true →
    (edges : List Edge) × (length edges ≡ 4) × ((other : Cell) (towards : Side) → is_in_edge_orbit grid cell side other towards ≡ true → Contains edges (record { cell = other; side = towards }))
