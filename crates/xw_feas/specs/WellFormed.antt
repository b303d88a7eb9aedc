-- The invariants of the grid and the dictionary of every engine.
use Rattle.std.specs.Prelude.{◌≡◌, ℕ, ◌<◌, ◌≤◌, true, length, slice_index, Some}
use Rattle.xw_letters.specs.Letter.{IsLetter}
use Rattle.xw_words.specs.Dictionary.{IsDictionary}
use Rattle.xw_grid.specs.Grid.{IsGrid}
use Rattle.xw_feas.specs.Board.{Board, board_of, entry, is_open, light_at}
use Rattle.xw_feas.specs.State.{State}

-- each entry is a letter A to Z
abbrev pub HasLetterEntries : Board → Type 0
HasLetterEntries board = (cell letter : ℕ) → entry board cell ≡ Some letter → IsLetter letter

-- a light has 2 to 255 distinct cells, all of them open; two lights share at most one cell; each
-- entry is a letter
pub record IsLaidOut (board : Board) : Type 0 where
  pub entries : length board.entries ≡ length board.open_cells
  pub several : (light : ℕ) → light < length board.lights → 2 ≤ length (light_at board light)
  pub short : (light : ℕ) → length (light_at board light) ≤ 255
  pub cells_open : (light k : ℕ) → k < length (light_at board light) → is_open board (slice_index (light_at board light) k) ≡ true
  pub distinct : (light j k : ℕ) → j < length (light_at board light) → k < length (light_at board light) → slice_index (light_at board light) j ≡ slice_index (light_at board light) k → j ≡ k
  pub cross_once : (light other i j k l : ℕ) → (light ≡ other → ⊥) → i < length (light_at board light) → k < length (light_at board light) → j < length (light_at board other) → l < length (light_at board other) → slice_index (light_at board light) i ≡ slice_index (light_at board other) j → slice_index (light_at board light) k ≡ slice_index (light_at board other) l → i ≡ k
  pub letters : HasLetterEntries board

-- the grid and the dictionary satisfy their invariants
pub record IsWellFormed (state : State) : Type 0 where
  pub grid : IsGrid state.grid
  pub board : IsLaidOut (board_of state.grid)
  pub dictionary : IsDictionary state.words
