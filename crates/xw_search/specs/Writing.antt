-- Lists of written cells.
use Rattle.std.specs.Prelude.{◌≡◌, ℕ, true, List, map, slice_set, Option, [], ◌∷◌}
use Rattle.xw_feas.specs.Board.{board_of}
use Rattle.xw_feas.specs.State.{State}
use Rattle.xw_grid.specs.declared.cell.Cell.{Cell}
use Rattle.xw_grid.specs.declared.cell.Square.TheVariants.{Open}
use Rattle.xw_grid.specs.Grid.{Grid, IsSquare, is_open, index_of}

-- the entries of a state
abbrev pub entries_of : State → List (Option ℕ)
entries_of state = (board_of state.grid).entries

-- a list of cells, each by its index in reading order
abbrev pub by_index : Grid → List (Cell × Option ℕ) → List (ℕ × Option ℕ)
by_index grid list = map (λ written. (index_of grid written.0, written.1)) list

-- the entries after each cell of a list was written
abbrev pub written_in : List (Option ℕ) → List (ℕ × Option ℕ) → List (Option ℕ)
written_in entries [] = entries
written_in entries (written ∷ list) = written_in (slice_set entries written.0 written.1) list

-- the cell is open, and what is written there is a letter or none
abbrev pub CanBeWritten : Grid → Cell × Option ℕ → Type 0
CanBeWritten grid written = (is_open grid written.0 ≡ true) × IsSquare (Open written.1)
