-- The part of a grid that answers depend on: all but the symmetry.
use Rattle.std.specs.Prelude.{◌≡◌, ℕ, List, Ok}
use Rattle.xw_grid.specs.declared.lights.Light.{Light}
use Rattle.xw_grid.specs.Grid.{Grid}
use Rattle.xw_grid.specs.Light.{lights_of}
use Rattle.xw_feas.specs.Board.{Board, board_of}
use Rattle.xw_feas.specs.State.{Action, grid_after}

-- the width, the lights and the board of a grid
pub record Layout : Type 0 where
  pub width : ℕ
  pub lights : List Light
  pub board : Board

abbrev pub layout_of : Grid → Layout
layout_of grid = record { width = grid.width; lights = lights_of grid; board = board_of grid }

-- an edit that keeps the lights and all entries
abbrev pub IsIdle : Grid → Action → Type 0
IsIdle grid action = (new : Grid) → grid_after grid action ≡ Ok new → layout_of new ≡ layout_of grid
