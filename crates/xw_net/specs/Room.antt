-- The arrays for the lights of a grid, and their room.
use Rattle.std.specs.Prelude.{◌≡◌, ℕ, ◌+◌, ◌<◌, ◌≤◌, false, List, [], ◌==◌, if◌then◌else◌, length, replicate, slice_index_or}
use Rattle.xw_bits.specs.Bits.{RowOfBits}
use Rattle.xw_words.specs.Dictionary.{Entry}
use Rattle.xw_grid.specs.declared.lights.Light.{Light}
use Rattle.xw_grid.specs.Light.{no_light}
use Rattle.xw_net.specs.Worklist.{IsRoomierList}
use Rattle.xw_net.specs.declared.net.Net.{Net}
use Rattle.xw_net.specs.declared.room.Spare.{Spare}

-- the number of known words of a length
abbrev pub counts_of : (ℕ → List Entry) → ℕ → ℕ
counts_of entries len = length (entries len)

-- the numbers of known words, with one more word of length `grown`
abbrev pub with_word : ℕ → (ℕ → ℕ) → ℕ → ℕ
with_word grown counts len = counts len + (if len == grown then 1 else 0)

-- the number of cells of a light
abbrev pub size_at : List Light → ℕ → ℕ
size_at lights light = (slice_index_or lights light no_light).size

-- the default for a row that does not exist
abbrev pub no_row : RowOfBits
no_row = record { bits = []; room = 0 }

-- the row of a light
abbrev pub row_at : List RowOfBits → ℕ → RowOfBits
row_at rows light = slice_index_or rows light no_row

-- no row has lost room
abbrev pub KeepRoom : List RowOfBits → List RowOfBits → Type 0
KeepRoom old new = (light : ℕ) → (row_at old light).room ≤ (row_at new light).room

-- the rows have the same bits, and at least as much room
pub record AreRoomier (old new : List RowOfBits) : Type 0 where
  pub long : length new ≡ length old
  pub bits : (light : ℕ) → (row_at new light).bits ≡ (row_at old light).bits
  pub room : (light : ℕ) → (row_at old light).room ≤ (row_at new light).room

-- the net is the same, except that it may have more room
pub record IsRoomier (old new : Net) : Type 0 where
  pub rows : AreRoomier old.rows.items new.rows.items
  pub base : AreRoomier old.base.items new.base.items
  pub queue : IsRoomierList old.queue new.queue
  pub chain : IsRoomierList old.chain new.chain
  pub rest : new ≡ record old { rows = new.rows; base = new.base; queue = new.queue; chain = new.chain }

-- The sizes of rows for these lights and numbers of known words:
module _ (lights : List Light) (counts : ℕ → ℕ) where
  -- each light's row has a bit for each known word of its length
  abbrev pub HaveBits : List RowOfBits → Type 0
  HaveBits rows = (light : ℕ) → light < length lights → length (row_at rows light).bits ≡ counts (size_at lights light)

  -- each light's row has room for a bit for each known word of its length
  abbrev pub HaveRoom : List RowOfBits → Type 0
  HaveRoom rows = (light : ℕ) → light < length lights → counts (size_at lights light) ≤ (row_at rows light).room

  -- the net's rows have a bit for each known word
  pub record IsWhole (net : Net) : Type 0 where
    pub rows : HaveBits net.rows.items
    pub base : HaveBits net.base.items

  -- each light's row has a clear bit for each known word
  pub record AreFalse (rows : List RowOfBits) : Type 0 where
    pub long : length rows ≡ length lights
    pub bits : (light : ℕ) → light < length lights → (row_at rows light).bits ≡ replicate (counts (size_at lights light)) false
    pub room : HaveRoom rows

  -- each light's row is empty, with room for a bit for each known word
  pub record AreEmpty (rows : List RowOfBits) : Type 0 where
    pub long : length rows ≡ length lights
    pub bits : (light : ℕ) → light < length lights → (row_at rows light).bits ≡ []
    pub room : HaveRoom rows

  -- the net has room for these lights and words
  pub record HasRoom (net : Net) : Type 0 where
    pub rows : HaveRoom net.rows.items
    pub base : HaveRoom net.base.items

  -- the spare arrays are empty arrays for these lights
  pub record IsSpare (spare : Spare) : Type 0 where
    pub rows : AreEmpty spare.rows.items
    pub base : AreEmpty spare.base.items
    pub entered : spare.entered.items ≡ replicate (length lights) false
    pub queue_marks : spare.queue_marks.items ≡ replicate (length lights) false
    pub chain_marks : spare.chain_marks.items ≡ replicate (length lights) false

  -- the net has spare arrays for these lights, and room for them in its queue and chain
  pub record HasSpare (net : Net) (spare : Spare) : Type 0 where
    pub arrays : IsSpare spare
    pub queue : length lights ≤ net.queue.room
    pub chain : length lights ≤ net.chain.room
