-- The file part of a puzzle: what a file can hold of it.
use Rattle.std.specs.Prelude.{ℕ, Bool, ◌&&◌, List, map, filter}
use Rattle.xw_grid.specs.declared.cell.Cell.{Cell}
use Rattle.xw_grid.specs.declared.cell.Square.{Square}
use Rattle.xw_grid.specs.Grid.{Grid, cells, is_open}
use Rattle.xw_grid.specs.Light.{lights_of}
use Rattle.xw_grid.specs.Clue.{is_circled}
use Rattle.xw_grid.specs.Puzzle.{TextsShown, PuzzleShown, clue_of}

-- the clue of each light, in light order
abbrev pub light_clues : PuzzleShown → List (List ℕ)
light_clues puzzle = map (clue_of puzzle.clues) (lights_of puzzle.grid)

abbrev pub is_circled_open : Grid → List Cell → Cell → Bool
is_circled_open grid circles cell = is_open grid cell && is_circled circles cell

-- the open circled cells, in reading order
abbrev pub circled_cells : PuzzleShown → List Cell
circled_cells puzzle = filter (is_circled_open puzzle.grid puzzle.circles) (cells puzzle.grid)

-- size, blocks and letters, the texts, the clues of the lights, and the open circled cells
pub record FilePart : Type 0 where
  pub width : ℕ
  pub height : ℕ
  pub squares : List Square
  pub texts : TextsShown
  pub clues : List (List ℕ)
  pub circled : List Cell

abbrev pub part_of : PuzzleShown → FilePart
part_of puzzle = record {
  width = puzzle.grid.width;
  height = puzzle.grid.height;
  squares = puzzle.grid.squares;
  texts = puzzle.texts;
  clues = light_clues puzzle;
  circled = circled_cells puzzle;
}
