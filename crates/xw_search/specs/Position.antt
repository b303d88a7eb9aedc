-- A position is the part of a state that feasibility depends on: the board and the dictionary. A search moves from
-- position to position by placing words.
use Rattle.std.specs.Prelude.{◌≡◌, ℕ, List, [], ◌∷◌, drop, slice_index_or, slice_set, Option, Some, None}
use Rattle.xw_words.specs.Dictionary.{Dictionary}
use Rattle.xw_grid.specs.declared.cell.Square.{Square}
use Rattle.xw_grid.specs.declared.cell.Square.TheVariants.{Block, Open}
use Rattle.xw_grid.specs.declared.cell.LightName.{LightName}
use Rattle.xw_grid.specs.Light.{lights_of, no_light}
use Rattle.xw_feas.specs.Board.{Board, board_of, light_at}
use Rattle.xw_feas.specs.State.{State}

pub record Position : Type 0 where
  pub board : Board
  pub words : Dictionary

abbrev pub position_of : State → Position
position_of state = record { board = board_of state.grid; words = state.words }

-- ---- placing a word

abbrev pub with_entries : Board → List (Option ℕ) → Board
with_entries board entries = record board { entries = entries }

-- the position with its entries replaced
abbrev pub holding : Position → List (Option ℕ) → Position
holding position entries = record position { board = with_entries position.board entries }

-- the entries after the cells took the letters, each cell the letter at its index
abbrev pub entries_with : List (Option ℕ) → List ℕ → List ℕ → List (Option ℕ)
entries_with entries [] letters = entries
entries_with entries (cell ∷ cells) [] = entries
entries_with entries (cell ∷ cells) (letter ∷ letters) = entries_with (slice_set entries cell (Some letter)) cells letters

-- the position after the word is placed in the light
abbrev pub placed : Position → ℕ → List ℕ → Position
placed position light word = holding position (entries_with position.board.entries (light_at position.board light) word)

-- ---- the state of a position

abbrev pub square_with : Square → Option ℕ → Square
square_with Block entry = Block
square_with (Open entered) entry = Open entry

-- the squares with the entry of each open square replaced
abbrev pub squares_with : List Square → List (Option ℕ) → List Square
squares_with [] entries = []
squares_with (square ∷ squares) entries = square_with square (slice_index_or entries 0 None) ∷ squares_with squares (drop 1 entries)

-- the state with the entries of its grid replaced, and all else the same
abbrev pub filled_in : State → List (Option ℕ) → State
filled_in state entries = record state { grid = record (state.grid) { squares = squares_with state.grid.squares entries } }

-- the two states differ at most in their entries
abbrev pub DiffersInEntries : State → State → Type 0
DiffersInEntries before after = after ≡ filled_in before (board_of after.grid).entries

-- ---- names

-- the name of the light at an index
abbrev pub name_at : State → ℕ → LightName
name_at state light = (slice_index_or (lights_of state.grid) light no_light).name
