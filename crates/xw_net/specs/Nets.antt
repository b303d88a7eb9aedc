-- The marks that the arrays of a net represent, and the sizes of these arrays.
use Rattle.std.specs.Prelude.{◌≡◌, ℕ, ◌+◌, ◌-◌, ◌*◌, ◌^◌, ◌<◌, ◌≤◌, Bool, true, false, All, List, [], ◌∷◌, ◌++◌, Option, Some, None, length, slice_get, slice_index, slice_index_or, vec_len}
use Rattle.xw_bits.specs.Bits.{RowOfBits}
use Rattle.xw_words.specs.Dictionary.{Entry}
use Rattle.xw_feas.specs.Board.{Board, light_at}
use Rattle.xw_feas.specs.Flags.{set_has, set_sum}
use Rattle.xw_net.specs.Marks.{Marks, IsPositionIn, cell_at, side_of, slot_at}
use Rattle.xw_net.specs.Room.{row_at}
use Rattle.xw_net.specs.Worklist.{is_waiting}
use Rattle.xw_net.specs.declared.light_position.LightPosition.{LightPosition}
use Rattle.xw_net.specs.declared.light_position.Positions.{Positions}
use Rattle.xw_net.specs.declared.net.Net.{Net}

-- the bits of a row; none if there is no row
abbrev pub bits_at : Option RowOfBits → List Bool
bits_at None = []
bits_at (Some row) = row.bits

-- the bits of a light's row: a flag for each known word
abbrev pub bits_for : Net → ℕ → List Bool
bits_for net light = bits_at (slice_get net.rows.items light)

-- whether the net has a word of a light, by its number: the known words come first, then the
-- entered word
unfoldable pub word_stands : Net → ℕ → ℕ → Bool
word_stands net light choice = slice_index_or (bits_for net light ++ slice_index_or net.entered.items light false ∷ []) choice false

-- whether the net has a letter at a cell
unfoldable pub letter_stands : Net → ℕ → ℕ → Bool
letter_stands net cell letter = set_has net.letters.items cell letter

-- the number of the word held for a letter at a slot
unfoldable pub held_in : Net → ℕ → ℕ → ℕ
held_in net slot letter = slice_index net.held.items (26 * slot + (letter - 65))

-- whether the next search for a letter at a slot has to restart at the first word
unfoldable pub restart_in : Net → ℕ → ℕ → Bool
restart_in net slot letter = set_has net.restart.items slot letter

-- whether a letter is pending at a slot
unfoldable pub pending_in : Net → ℕ → ℕ → Bool
pending_in net slot letter = set_has net.pending.items slot letter

-- whether a light is queued
unfoldable pub queued_in : Net → ℕ → Bool
queued_in net light = slice_index_or net.queue.marks light false

-- the marks that a net represents
abbrev pub marks_of : Net → Marks
marks_of net = record { words = word_stands net; letters = letter_stands net; held = held_in net; restart = restart_in net; pending = pending_in net; queued = queued_in net }

-- the arrays have the right sizes
pub record IsShaped (board : Board) (net : Net) : Type 0 where
  pub few_cells : length board.open_cells < 2 ^ 32
  pub rows : length board.lights ≤ vec_len net.rows
  pub entered : length board.lights ≤ vec_len net.entered
  pub letters : vec_len net.letters ≡ length board.open_cells
  pub held : vec_len net.held ≡ 52 * length board.open_cells
  pub restart : vec_len net.restart ≡ 2 * length board.open_cells
  pub pending : vec_len net.pending ≡ 2 * length board.open_cells
  pub queue : length net.queue.marks ≡ length board.lights

-- the arrays for a chain have the right sizes
pub record IsChained (board : Board) (net : Net) : Type 0 where
  pub base : length board.lights ≤ vec_len net.base
  pub chain : length net.chain.marks ≡ length board.lights

-- what stripping does not change; no row loses room
pub record IsLeft (old new : Net) : Type 0 where
  pub base : new.base ≡ old.base
  pub chain : new.chain ≡ old.chain
  pub spare : new.spare ≡ old.spare
  pub long : length new.rows.items ≡ length old.rows.items
  pub rows : (light : ℕ) → (row_at old.rows.items light).room ≤ (row_at new.rows.items light).room

-- each light's row has a bit for each known word
abbrev pub HasBits : Board → (ℕ → List Entry) → Net → Type 0
HasBits board entries net = (light : ℕ) → light < length board.lights → length (bits_for net light) ≡ length (entries (length (light_at board light)))

-- the fields of a `LightPosition` describe a position of a light of the board
pub record IsThere (board : Board) (here : LightPosition) : Type 0 where
  pub position : IsPositionIn board here.light here.position
  pub len : here.len ≡ length (light_at board here.light)
  pub cell : here.cell ≡ cell_at board here.light here.position
  pub slot : here.slot ≡ slot_at board here.light here.position
  pub in_board : here.cell < length board.open_cells
  pub in_slots : here.slot < 2 * length board.open_cells

-- the positions are those of a light of the board
pub record ArePositionsIn (board : Board) (positions : Positions) : Type 0 where
  pub light : positions.light < length board.lights
  pub cells : positions.cells ≡ light_at board positions.light
  pub in_board : All (λ cell. cell < length board.open_cells) positions.cells
  pub side : positions.side ≡ side_of positions.cells

-- the light is in the queue if its flag is set
abbrev pub Waits : Net → ℕ → Type 0
Waits net light = queued_in net light ≡ true → is_waiting net.queue.lights light ≡ true

-- each light whose flag is set is in the queue
abbrev pub IsQueue : Net → Type 0
IsQueue net = (light : ℕ) → Waits net light

-- a number that decreases with each step of stripping
abbrev pub left_of : Net → ℕ
left_of net = 2 * set_sum net.letters.items + length net.queue.lights
