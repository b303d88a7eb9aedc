-- What both writers require, which is no bar and no empty cell; and the byte of a square.
use Rattle.std.specs.Prelude.{ℕ, Bool, true, false, ◌||◌, find, Option, Some, None}
use Rattle.std.specs.List.{list_any}
use Rattle.xw_grid.specs.declared.cell.Cell.{Cell}
use Rattle.xw_grid.specs.declared.cell.Square.{Square}
use Rattle.xw_grid.specs.declared.cell.Square.TheVariants.{Block, Open}
use Rattle.xw_grid.specs.declared.cell.Side.TheVariants.{Right, Below}
use Rattle.xw_grid.specs.Grid.{Grid, cells, is_barred, square_at}

abbrev pub is_barred_cell : Grid → Cell → Bool
is_barred_cell grid cell = is_barred grid cell Right || is_barred grid cell Below

abbrev pub has_bar : Grid → Bool
has_bar grid = list_any (is_barred_cell grid) (cells grid)

abbrev pub is_empty_square : Option Square → Bool
is_empty_square None = false
is_empty_square (Some Block) = false
is_empty_square (Some (Open None)) = true
is_empty_square (Some (Open (Some letter))) = false

abbrev pub is_empty_cell : Grid → Cell → Bool
is_empty_cell grid cell = is_empty_square (square_at grid cell)

-- the first empty cell in reading order
abbrev pub empty_cell : Grid → Option Cell
empty_cell grid = find (is_empty_cell grid) (cells grid)

-- the byte of a square, in the solution of a `.puz` file and in a row of a text file
abbrev pub square_byte : Square → ℕ
square_byte Block = 46
square_byte (Open None) = 45
square_byte (Open (Some letter)) = letter
