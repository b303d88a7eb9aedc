-- Lists of written cells, and the progress of a search for a reason.
use Rattle.std.specs.Prelude.{◌≡◌, ℕ, true, false, List, length, slice_set, All, Contains, Option, Some, None}
use Rattle.xw_grid.specs.declared.cell.Cell.{Cell}
use Rattle.xw_grid.specs.Grid.{is_open, index_of, cell_at}
use Rattle.xw_feas.specs.State.{State}
use Rattle.xw_search.specs.Position.{Position, position_of, DiffersInEntries}
use Rattle.xw_search.specs.Lights.{lacks_words}
use Rattle.xw_fill.specs.Reason.{entry_in, leaves_none, no_entries}
use Rattle.xw_search.specs.Writing.{entries_of}
use Rattle.xw_fill.specs.declared.why.Room.{Room}

-- the same cell, to be emptied
abbrev pub emptied : Cell × Option ℕ → Cell × Option ℕ
emptied written = (written.0, None)

-- the list has each cell that is entered in the state, with what these entries have there
pub record IsListOf (state : State) (entries : List (Option ℕ)) (list : List (Cell × Option ℕ)) : Type 0 where
  pub sound : All (λ written. (is_open state.grid written.0 ≡ true) × (written.1 ≡ entry_in entries (index_of state.grid written.0))) list
  pub all : (cell letter : ℕ) → entry_in (entries_of state) cell ≡ Some letter → Contains list (cell_at state.grid cell, entry_in entries cell)

-- the room is right for a search from this state
pub record IsRoom (state : State) (room : Room) : Type 0 where
  pub entered : IsListOf state (entries_of state) room.entered.items
  pub emptied : IsListOf state (no_entries (entries_of state)) room.emptied.items
  pub long : length room.reason.items ≡ length (entries_of state)

-- the cell is empty, or the light has a feasible word without its entry
abbrev pub IsNeeded : Position → ℕ → List (Option ℕ) → ℕ → Type 0
IsNeeded position light entries cell = (letter : ℕ) → entry_in entries cell ≡ Some letter → leaves_none position light (slice_set entries cell None) ≡ false

-- the cell of a state's grid is empty, or the light has a feasible word without its entry
abbrev pub IsNeededIn : State → ℕ → Cell → Type 0
IsNeededIn state light cell = IsNeeded (position_of state) light (entries_of state) (index_of state.grid cell)

-- the cell had an entry and was emptied, and the light still has no feasible word
pub record IsSpared (before : State) (light cell : ℕ) (now : State) : Type 0 where
  pub letter : ℕ
  pub was : entry_in (entries_of before) cell ≡ Some letter
  pub entries : entries_of now ≡ slice_set (entries_of before) cell None
  pub rest : DiffersInEntries before now
  pub dead : lacks_words (position_of now) light ≡ true
