-- The cells at which the lights of a direction begin.
use Rattle.std.specs.Prelude.{List, [], ◌∷◌, flat_map, if◌then◌else◌}
use Rattle.xw_grid.specs.declared.cell.Cell.{Cell}
use Rattle.xw_grid.specs.declared.cell.Direction.{Direction}
use Rattle.xw_grid.specs.declared.lights.Light.{Light}
use Rattle.xw_grid.specs.Grid.{Grid}
use Rattle.xw_grid.specs.Light.{lights_of, same_direction}

-- the start of a light, if it has this direction
abbrev pub start_in : Direction → Light → List Cell
start_in direction light = if same_direction light.name.direction direction then light.start ∷ [] else []

-- the starts of the lights of this direction, in light order
abbrev pub starts_in : Direction → List Light → List Cell
starts_in direction lights = flat_map (start_in direction) lights

abbrev pub starts : Grid → Direction → List Cell
starts grid direction = starts_in direction (lights_of grid)
