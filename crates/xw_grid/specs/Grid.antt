-- A grid as its callers see it.
use Rattle.std.specs.Prelude.{◌≡◌, ℕ, ◌+◌, ◌-◌, ◌*◌, ◌/◌, ◌%◌, ◌≤◌, Bool, true, false, ◌&&◌, ◌==◌, List, map, length, Option, Some, None, if◌then◌else◌, nat_le, slice_get, slice_index_or, All}
use Rattle.std.specs.List.{range_with_len}
use Rattle.std.specs.declared.cmp.Ordering.{Ordering}
use Rattle.std.specs.Ordering.{nat_cmp, ordering_then}
use Rattle.xw_letters.specs.Letter.{IsLetter}
use Rattle.xw_grid.specs.declared.cell.Cell.{Cell}
use Rattle.xw_grid.specs.declared.cell.Square.{Square}
use Rattle.xw_grid.specs.declared.cell.Square.TheVariants.{Block, Open}
use Rattle.xw_grid.specs.declared.cell.Side.{Side}
use Rattle.xw_grid.specs.declared.cell.Side.TheVariants.{Right, Below}
use Rattle.xw_grid.specs.declared.cell.Symmetry.{Symmetry}
use Rattle.xw_grid.specs.declared.cell.Symmetry.TheVariants.{Quarter}

-- a grid: its squares in reading order, for each of them whether the edge to its right and the edge
-- below it are barred, and the symmetry that edits follow
pub record Grid : Type 0 where
  pub width : ℕ
  pub height : ℕ
  pub squares : List Square
  pub right : List Bool
  pub below : List Bool
  pub symmetry : Symmetry

-- the square is a block, or open and either empty or with a letter A to Z
abbrev pub IsSquare : Square → Type 0
IsSquare Block = Unit {0}
IsSquare (Open None) = Unit {0}
IsSquare (Open (Some letter)) = IsLetter letter

-- the invariant of a grid: sides of 1 to 255 cells, one square and two edges for each cell, letters
-- A to Z, and quarter turns only in a square grid
pub record IsGrid (grid : Grid) : Type 0 where
  pub wide : (1 ≤ grid.width) × (grid.width ≤ 255)
  pub high : (1 ≤ grid.height) × (grid.height ≤ 255)
  pub squares : length grid.squares ≡ grid.width * grid.height
  pub letters : All IsSquare grid.squares
  pub right : length grid.right ≡ grid.width * grid.height
  pub below : length grid.below ≡ grid.width * grid.height
  pub turned : grid.symmetry ≡ Quarter → grid.width ≡ grid.height

-- ---- cells

-- whether a cell is inside the grid
abbrev pub is_inside : Grid → Cell → Bool
is_inside grid cell = (nat_le 1 cell.row && nat_le cell.row grid.height) && (nat_le 1 cell.col && nat_le cell.col grid.width)

-- whether two cells are the same
abbrev pub same_cell : Cell → Cell → Bool
same_cell a b = (a.row == b.row) && (a.col == b.col)

-- the order of cells in reading order
abbrev pub cell_cmp : Cell → Cell → Ordering
cell_cmp a b = ordering_then (nat_cmp a.row b.row) (nat_cmp a.col b.col)

-- the index of a cell in reading order
abbrev pub index_of : Grid → Cell → ℕ
index_of grid cell = (cell.row - 1) * grid.width + (cell.col - 1)

-- the cell at an index in reading order, in a grid of this width
abbrev pub cell_in : ℕ → ℕ → Cell
cell_in width index = record { row = index / width + 1; col = index % width + 1 }

-- the cell of a grid at an index in reading order
abbrev pub cell_at : Grid → ℕ → Cell
cell_at grid index = cell_in grid.width index

-- all cells in reading order
abbrev pub cells : Grid → List Cell
cells grid = map (cell_at grid) (range_with_len 0 (grid.width * grid.height))

-- the square of a cell; none outside the grid
abbrev pub square_at : Grid → Cell → Option Square
square_at grid cell = if is_inside grid cell then slice_get grid.squares (index_of grid cell) else None

-- whether there is a square and it is open
abbrev pub is_open_square : Option Square → Bool
is_open_square (Some (Open entered)) = true
is_open_square (Some Block) = false
is_open_square None = false

-- whether there is a square and it is a block
abbrev pub is_block_square : Option Square → Bool
is_block_square (Some Block) = true
is_block_square (Some (Open entered)) = false
is_block_square None = false

-- the letter in a square, if there is one
abbrev pub letter_in : Option Square → Option ℕ
letter_in (Some (Open entered)) = entered
letter_in (Some Block) = None
letter_in None = None

-- whether a cell is open; false outside the grid
abbrev pub is_open : Grid → Cell → Bool
is_open grid cell = is_open_square (square_at grid cell)

-- whether a cell is a block; false outside the grid
abbrev pub is_block : Grid → Cell → Bool
is_block grid cell = is_block_square (square_at grid cell)

-- the letter in a cell; none if it is empty, a block, or outside the grid
abbrev pub entry : Grid → Cell → Option ℕ
entry grid cell = letter_in (square_at grid cell)

-- ---- edges

-- the cell on the other side of an edge
abbrev pub beyond : Side → Cell → Cell
beyond Right cell = record { row = cell.row; col = cell.col + 1 }
beyond Below cell = record { row = cell.row + 1; col = cell.col }

-- whether two sides are the same
abbrev pub same_side : Side → Side → Bool
same_side Right Right = true
same_side Right Below = false
same_side Below Right = false
same_side Below Below = true

-- whether the edge is inside the grid, between two of its cells
abbrev pub is_edge : Grid → Cell → Side → Bool
is_edge grid cell side = is_inside grid cell && is_inside grid (beyond side cell)

-- for each cell, whether the edge on this side is barred
abbrev pub bars : Grid → Side → List Bool
bars grid Right = grid.right
bars grid Below = grid.below

-- whether an edge is barred; false on the border and outside the grid
abbrev pub is_barred : Grid → Cell → Side → Bool
is_barred grid cell side = is_edge grid cell side && slice_index_or (bars grid side) (index_of grid cell) false
