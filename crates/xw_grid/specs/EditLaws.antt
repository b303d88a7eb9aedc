-- What edits of a grid change, and what they leave alone.
use Rattle.std.specs.Prelude.{◌≡◌, ℕ, Bool, true, not, ◌&&◌, List, length, Option, Some, Ok, if◌then◌else◌}
use Rattle.xw_grid.specs.declared.cell.Cell.{Cell}
use Rattle.xw_grid.specs.declared.cell.Side.{Side}
use Rattle.xw_grid.specs.declared.cell.Direction.{Direction}
use Rattle.xw_grid.specs.declared.cell.Symmetry.{Symmetry}
use Rattle.xw_grid.specs.Grid.{Grid, is_block, IsGrid, is_inside, is_open, square_at, is_edge, is_barred, same_cell}
use Rattle.xw_grid.specs.Orbit.{is_in_orbit, is_in_edge_orbit}
use Rattle.xw_grid.specs.Edit.{set_entry, set_symmetry, toggle_block, toggle_bar, turned, square_of}
use Rattle.xw_grid.specs.Light.{lights_of, same_direction}
use Rattle.xw_grid.specs.Clue.{ClueMap, clue_at, with_clue, is_circled, with_circle}

-- two grids have the same lights, open cells and size
pub record SameShape (old new : Grid) : Type 0 where
  pub lights : lights_of new ≡ lights_of old
  pub opens : (cell : Cell) → is_open new cell ≡ is_open old cell
  pub cells : length new.squares ≡ length old.squares

-- writing or deleting a letter keeps the shape
abbrev pub LettersKeepShape : Type 0
LettersKeepShape = (old new : Grid) (cell : Cell) (letter : Option ℕ) → IsGrid old → set_entry old cell letter ≡ Ok new → SameShape old new

-- setting the symmetry keeps the shape
abbrev pub SymmetryKeepsShape : Type 0
SymmetryKeepsShape = (old new : Grid) (kind : Symmetry) → set_symmetry old kind ≡ Ok new → SameShape old new

-- toggling a block changes the cells of its orbit only
abbrev pub BlocksChangeOrbits : Type 0
BlocksChangeOrbits = (old new : Grid) (cell other : Cell) → IsGrid old → toggle_block old cell ≡ Ok new → is_inside old other ≡ true →
    square_at new other ≡ Some (if is_in_orbit old cell other then turned (not (is_block old cell)) (square_of old other) else square_of old other)

-- toggling a bar changes the edges of its orbit only
abbrev pub BarsChangeOrbits : Type 0
BarsChangeOrbits = (old new : Grid) (cell other : Cell) (side towards : Side) → IsGrid old → toggle_bar old cell side ≡ Ok new → is_edge old other towards ≡ true →
    is_barred new other towards ≡ (if is_in_edge_orbit old cell side other towards then not (is_barred old cell side) else is_barred old other towards)

-- the clue at a cell and direction is the one that was last set for them
abbrev pub CluesAreKept : Type 0
CluesAreKept = (clues : ClueMap) (cell other : Cell) (direction towards : Direction) (text : List ℕ) →
    clue_at (with_clue clues cell direction text) other towards ≡ (if same_direction direction towards && same_cell cell other then text else clue_at clues other towards)

-- a cell is circled if and only if its last change circled it
abbrev pub CirclesAreKept : Type 0
CirclesAreKept = (circles : List Cell) (cell other : Cell) (circled : Bool) →
    is_circled (with_circle circles cell circled) other ≡ (if same_cell cell other then circled else is_circled circles other)
