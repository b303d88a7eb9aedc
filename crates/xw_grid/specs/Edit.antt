-- What each edit of a grid does, and when it is refused. The refusals are tested in the order
-- given.
use Rattle.std.specs.Prelude.{ℕ, ◌*◌, Bool, true, false, not, ◌&&◌, ◌==◌, List, map, Option, None, Result, Ok, Err, if◌then◌else◌, nat_le, is_some, slice_set, slice_index_or, replicate}
use Rattle.std.specs.List.{list_any}
use Rattle.xw_grid.specs.declared.cell.Cell.{Cell}
use Rattle.xw_grid.specs.declared.cell.Square.{Square}
use Rattle.xw_grid.specs.declared.cell.Square.TheVariants.{Block, Open}
use Rattle.xw_grid.specs.declared.cell.Side.{Side}
use Rattle.xw_grid.specs.declared.cell.Side.TheVariants.{Right, Below}
use Rattle.xw_grid.specs.declared.cell.Symmetry.{Symmetry}
use Rattle.xw_grid.specs.declared.cell.Symmetry.TheVariants as kinds
use Rattle.xw_grid.specs.declared.fault.GridFault.{GridFault}
use Rattle.xw_grid.specs.declared.fault.GridFault.TheVariants.{Size, OutOfGrid, OnBlock, Occupied, NotSquare, Border}
use Rattle.xw_grid.specs.Grid.{Grid, is_inside, index_of, cells, is_block, entry, is_edge, is_barred, bars, same_side}
use Rattle.xw_grid.specs.Orbit.{images_of, is_in_orbit, is_in_edge_orbit}

-- a grid with these squares, no bars and no symmetry
abbrev pub grid_of : ℕ → ℕ → List Square → Grid
grid_of width height squares = record {
  width = width;
  height = height;
  squares = squares;
  right = replicate (width * height) false;
  below = replicate (width * height) false;
  symmetry = kinds.None;
}

-- a grid whose cells are all open and empty
abbrev pub blank : ℕ → ℕ → Grid
blank width height = grid_of width height (replicate (width * height) (Open None))

-- whether a side has an allowed length
abbrev is_size : ℕ → Bool
is_size side = nat_le 1 side && nat_le side 255

-- what creating a grid returns if no allocation fails
abbrev pub new_grid : ℕ → ℕ → Result Grid GridFault
new_grid width height = if is_size width && is_size height then Ok (blank width height) else Err Size

-- the grid with a letter, or none, in an open cell
abbrev pub with_entry : Grid → Cell → Option ℕ → Grid
with_entry grid cell letter = record grid { squares = slice_set grid.squares (index_of grid cell) (Open letter) }

-- what writing a letter into a cell, or emptying it, returns
abbrev pub set_entry : Grid → Cell → Option ℕ → Result Grid GridFault
set_entry grid cell letter =
    if not (is_inside grid cell) then Err OutOfGrid
    else if is_block grid cell then Err OnBlock
    else Ok (with_entry grid cell letter)

-- whether a cell of the orbit holds a letter
abbrev pub is_occupied : Grid → Cell → Bool
is_occupied grid cell = list_any (λ member. is_some (entry grid member)) (images_of grid cell)

-- a square after it was turned into a block (`true`) or opened (`false`): an opened block is empty,
-- and an open square stays as it is
abbrev pub turned : Bool → Square → Square
turned true square = Block
turned false Block = Open None
turned false (Open entered) = Open entered

-- the square of a cell inside the grid
abbrev pub square_of : Grid → Cell → Square
square_of grid cell = slice_index_or grid.squares (index_of grid cell) Block

-- the squares after the one at an index was turned
abbrev pub turn_at : Bool → List Square → ℕ → List Square
turn_at blocked squares index = slice_set squares index (turned blocked (slice_index_or squares index Block))

-- the grid after each cell of an orbit was turned into a block, or opened
abbrev pub with_orbit : Grid → Cell → Bool → Grid
with_orbit grid cell blocked = record grid { squares = map (λ other. if is_in_orbit grid cell other then turned blocked (square_of grid other) else square_of grid other) (cells grid) }

-- what toggling a block returns
abbrev pub toggle_block : Grid → Cell → Result Grid GridFault
toggle_block grid cell =
    if not (is_inside grid cell) then Err OutOfGrid
    else if not (is_block grid cell) && is_occupied grid cell then Err Occupied
    else Ok (with_orbit grid cell (not (is_block grid cell)))

-- the bars on one side of each cell, after each edge of an orbit was barred or freed
abbrev pub bars_with : Grid → Cell → Side → Bool → Side → List Bool
bars_with grid cell side barred other_side =
    map (λ other. if is_in_edge_orbit grid cell side other other_side then barred else slice_index_or (bars grid other_side) (index_of grid other) false) (cells grid)

-- the grid after each edge of an orbit was barred or freed
abbrev pub with_edges : Grid → Cell → Side → Bool → Grid
with_edges grid cell side barred = record grid { right = bars_with grid cell side barred Right; below = bars_with grid cell side barred Below }

-- what toggling a bar returns
abbrev pub toggle_bar : Grid → Cell → Side → Result Grid GridFault
toggle_bar grid cell side =
    if not (is_inside grid cell) then Err OutOfGrid
    else if not (is_edge grid cell side) then Err Border
    else Ok (with_edges grid cell side (not (is_barred grid cell side)))

-- the bars on one side of each cell, after one edge was barred or freed
abbrev pub bars_after : Grid → Cell → Side → Bool → Side → List Bool
bars_after grid cell side barred other_side = if same_side side other_side then slice_set (bars grid other_side) (index_of grid cell) barred else bars grid other_side

-- the grid after one edge was barred or freed
abbrev pub with_bar : Grid → Cell → Side → Bool → Grid
with_bar grid cell side barred = record grid { right = bars_after grid cell side barred Right; below = bars_after grid cell side barred Below }

abbrev is_quarter : Symmetry → Bool
is_quarter kinds.Quarter = true
is_quarter kinds.None = false
is_quarter kinds.Half = false
is_quarter kinds.LeftRight = false
is_quarter kinds.UpDown = false

-- what setting a symmetry returns
abbrev pub set_symmetry : Grid → Symmetry → Result Grid GridFault
set_symmetry grid kind =
    if is_quarter kind && not (grid.width == grid.height) then Err NotSquare
    else Ok (record grid { symmetry = kind })
