-- A puzzle as its readers and writers see it.
use Rattle.std.specs.Prelude.{ℕ, List}
use Rattle.xw_grid.specs.declared.cell.Cell.{Cell}
use Rattle.xw_grid.specs.declared.lights.Light.{Light}
use Rattle.xw_grid.specs.Grid.{Grid}
use Rattle.xw_grid.specs.Clue.{ClueMap, clue_at}
use Rattle.xw_grid.specs.declared.puzzle.Texts.{Texts}
use Rattle.xw_grid.specs.declared.puzzle.Puzzle.{Puzzle}

-- the four texts of a puzzle
pub record TextsShown : Type 0 where
  pub title : List ℕ
  pub author : List ℕ
  pub copyright : List ℕ
  pub notes : List ℕ

-- a puzzle without its layout in memory
pub record PuzzleShown : Type 0 where
  pub grid : Grid
  pub texts : TextsShown
  pub clues : ClueMap
  pub circles : List Cell

-- the texts without their layout in memory
abbrev pub texts_view : Texts → TextsShown
texts_view texts = record { title = texts.title.items; author = texts.author.items; copyright = texts.copyright.items; notes = texts.notes.items }

-- the puzzle without its layout in memory
abbrev pub puzzle_view : Puzzle → PuzzleShown
puzzle_view puzzle = record { grid = puzzle.grid; texts = texts_view puzzle.texts; clues = puzzle.clues; circles = puzzle.circles }

-- the clue of a light
abbrev pub clue_of : ClueMap → Light → List ℕ
clue_of clues light = clue_at clues light.start light.name.direction
