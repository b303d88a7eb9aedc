-- The state of a session.
use Rattle.std.specs.Borrow.{Bor}
use Rattle.std.specs.Prelude.{ℕ, Bool, List, Option, Some, None}
use Rattle.xw_grid.specs.declared.cell.Cell.{Cell}
use Rattle.xw_grid.specs.Clue.{ClueMap}
use Rattle.xw_grid.specs.Grid.{Grid}
use Rattle.xw_feas.specs.State.{State}
use Rattle.xw_grid.specs.Puzzle.{TextsShown}
use Rattle.xw_commands.specs.declared.command.CellArg.{CellArg}
use Rattle.xw_commands.specs.declared.command.TextField.{TextField}
use Rattle.xw_commands.specs.declared.command.TextField.TheVariants.{Title, Author, Copyright, Notes}

-- The engine (a grid with a dictionary), the four texts, the clues, the circled cells, whether the watch is on, and
-- for each length how many words were known when the session started.
pub record SessionState : Type 0 where
  pub engine : State
  pub texts : TextsShown
  pub clues : ClueMap
  pub circles : List Cell
  pub is_watched : Bool
  pub begun : List ℕ

-- the cell at a row and column of a command
abbrev pub cell_of : CellArg → Cell
cell_of spot = record { row = spot.row; col = spot.col }

-- the texts with one of them replaced
abbrev pub with_text_in : TextsShown → TextField → List ℕ → TextsShown
with_text_in texts Title text = record texts { title = text }
with_text_in texts Author text = record texts { author = text }
with_text_in texts Copyright text = record texts { copyright = text }
with_text_in texts Notes text = record texts { notes = text }

-- the state with another grid
abbrev pub drawn : SessionState → Grid → SessionState
drawn state grid = record state { engine = record state.engine { grid = grid } }

-- the grid of a draft, or the other grid if there is no draft
abbrev pub grid_seen : Grid → Option (Bor Grid) → Grid
grid_seen other None = other
grid_seen other (Some grid) = grid.now

-- the state with the grid of a draft, if there is one
abbrev pub seen : SessionState → Option (Bor Grid) → SessionState
seen state draft = drawn state (grid_seen state.engine.grid draft)
