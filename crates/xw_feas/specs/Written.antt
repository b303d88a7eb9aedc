-- What an edit writes, and which words it changes.
use Rattle.std.specs.Prelude.{ℕ, Bool, false, not, ◌==◌, nat_lt, List, [], ◌∷◌, map, filter, length, Option, Some, None, Result, Ok, Err, slice_index_or}
use Rattle.std.specs.List.{list_any}
use Rattle.std.specs.Option.{option_eq}
use Rattle.xw_words.specs.declared.fault.WordFault.{WordFault}
use Rattle.xw_words.specs.declared.bank.Added.{Added}
use Rattle.xw_words.specs.declared.bank.Added.TheVariants.{New, Returned}
use Rattle.xw_words.specs.Dictionary.{Dictionary, known_words, add_answer, strike_answer, capped, is_turned}
use Rattle.xw_grid.specs.declared.cell.Cell.{Cell}
use Rattle.xw_grid.specs.declared.lights.Light.{Light}
use Rattle.xw_grid.specs.Grid.{Grid, cells, entry}
use Rattle.xw_grid.specs.Orbit.{orbit_of}
use Rattle.xw_grid.specs.Light.{lights_of, cells_of, index_named, no_light}
use Rattle.xw_feas.specs.declared.edit.Refusal.{Refusal}
use Rattle.xw_feas.specs.State.{Action, grid_after, letter_set, cell_cleared, word_placed, list_written, block_toggled, word_added, word_struck, least_chosen}

-- the cells of a light, if there is one
abbrev pub cells_named : Grid → Option ℕ → List Cell
cells_named grid None = []
cells_named grid (Some light) = cells_of (slice_index_or (lights_of grid) light no_light)

-- whether two entries are the same
abbrev pub same_entry : Option ℕ → Option ℕ → Bool
same_entry one other = option_eq (λ x y. x == y) one other

-- the cells whose entry differs in the grid after an edit, in reading order
abbrev pub cells_changed : Grid → Result Grid Refusal → List Cell
cells_changed grid (Ok new) = filter (λ cell. not (same_entry (entry grid cell) (entry new cell))) (cells grid)
cells_changed grid (Err refusal) = []

-- the cells that an edit writes: the cell of an entry, the cells of the light where a word is placed,
-- the cells whose entry a list changes, or the orbit of a block
abbrev pub cells_written : Grid → Action → List Cell
cells_written grid (letter_set cell letter) = cell ∷ []
cells_written grid (cell_cleared cell) = cell ∷ []
cells_written grid (word_placed name word) = cells_named grid (index_named (lights_of grid) name)
cells_written grid (list_written list) = cells_changed grid (grid_after grid (list_written list))
cells_written grid (block_toggled cell) = orbit_of grid cell
cells_written grid other = []

-- whether an edit chooses a least grade that leaves out an active word of this length, or brings one back
abbrev pub turns_words : Dictionary → Action → ℕ → Bool
turns_words words (least_chosen grade) len = list_any (is_turned (capped grade)) (known_words words len)
turns_words words other len = false

-- a cell with its entry
abbrev pub with_entry_of : Grid → Cell → Cell × Option ℕ
with_entry_of grid cell = (cell, entry grid cell)

-- whether the entry of a cell differs from the listed one
abbrev pub is_changed : Grid → Cell × Option ℕ → Bool
is_changed grid listed = not (same_entry listed.1 (entry grid listed.0))

-- the cells that an edit writes, each with its entry before the edit
abbrev pub entries_written : Grid → Action → List (Cell × Option ℕ)
entries_written grid action = map (with_entry_of grid) (cells_written grid action)

-- the length and index of an added word
abbrev pub index_added : ℕ → Result Added WordFault → Option (ℕ × ℕ)
index_added len (Ok (New index)) = Some (len, index)
index_added len (Ok (Returned index)) = Some (len, index)
index_added len (Err fault) = None

-- the length and index of a struck word
abbrev pub index_struck : ℕ → Result ℕ WordFault → Option (ℕ × ℕ)
index_struck len (Ok index) = Some (len, index)
index_struck len (Err fault) = None

-- the length and index of the word that an edit adds or strikes
abbrev pub word_changed : Dictionary → Action → Option (ℕ × ℕ)
word_changed words (word_added word grade) = index_added (length word) (add_answer words word)
word_changed words (word_struck word) = index_struck (length word) (strike_answer words word)
word_changed words other = None

-- whether an edit chooses a lower least grade than before, which may bring words back
abbrev pub brings_back : Dictionary → Action → Bool
brings_back words (least_chosen grade) = nat_lt (capped grade) words.least
brings_back words other = false

-- the fields of a change, as a view: the cells that were written, each with its entry before; the
-- lights before; the length and index of the word that was added or struck; for each length whether the least grade made a
-- word active or left one out; and whether it may have made some active
pub record Fields : Type 0 where
  pub cells : List (Cell × Option ℕ)
  pub before : List Light
  pub word : Option (ℕ × ℕ)
  pub turned : ℕ → Bool
  pub back : Bool
