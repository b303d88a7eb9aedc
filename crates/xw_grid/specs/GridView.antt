-- The grid that a grid in memory stands for.
use Rattle.xw_grid.specs.declared.grid.Grid.TheInside.{Inside}
use Rattle.xw_grid.specs.Grid.{Grid}

-- the grid, without the layout in memory
abbrev pub grid_in : Inside → Grid
grid_in grid = record {
  width = grid.width;
  height = grid.height;
  squares = grid.squares.items;
  right = grid.right.items;
  below = grid.below.items;
  symmetry = grid.symmetry;
}
