-- How the data of lights moves to their indices after an edit.
use Rattle.std.specs.Prelude.{◌≡◌, ℕ, ◌<◌, ◌≤◌, Bool, false, List, [], length, replicate, slice_get, slice_index_or, Option, Some, None, option_and_then}
use Rattle.xw_bits.specs.Bits.{RowOfBits}
use Rattle.xw_grid.specs.declared.lights.Light.{Light}
use Rattle.xw_grid.specs.Grid.{Grid}
use Rattle.xw_grid.specs.Light.{lights_of, index_with_cells}
use Rattle.xw_net.specs.Room.{size_at, row_at}
use Rattle.xw_net.specs.declared.net.Net.{Net}

-- the lights of some grid
pub record AreLights (lights : List Light) : Type 0 where
  pub grid : Grid
  pub are : lights ≡ lights_of grid

-- the index of the light before the edit that has the cells of a light after it
abbrev pub same_before : List Light → List Light → ℕ → Option ℕ
same_before before after light = option_and_then (index_with_cells before) (slice_get after light)

-- the bits of the old row; for a new light, `known` clear bits
abbrev pub bits_from : List RowOfBits → ℕ → Option ℕ → List Bool
bits_from rows known None = replicate known false
bits_from rows known (Some other) = (row_at rows other).bits

-- the room of the old row; for a new light, room for `known` bits
abbrev pub room_from : List RowOfBits → ℕ → Option ℕ → ℕ
room_from rows known None = known
room_from rows known (Some other) = (row_at rows other).room

-- the old flag; for a new light, false
abbrev pub flag_from : List Bool → Option ℕ → Bool
flag_from flags None = false
flag_from flags (Some other) = slice_index_or flags other false

module _ (before after : List Light) where
  -- a light that stays has its old bits at its new index, and a new light has a clear bit for each
  -- known word
  pub record AreRowsMoved (counts : ℕ → ℕ) (old new : List RowOfBits) : Type 0 where
    pub long : length new ≡ length after
    pub bits : (light : ℕ) → light < length after → (row_at new light).bits ≡ bits_from old (counts (size_at after light)) (same_before before after light)
    pub room : (light : ℕ) → light < length after → room_from old (counts (size_at after light)) (same_before before after light) ≤ (row_at new light).room

  -- a light that stays has its old flag at its new index, and the flag of a new light is false
  pub record AreFlagsMoved (old new : List Bool) : Type 0 where
    pub long : length new ≡ length after
    pub flags : (light : ℕ) → light < length after → slice_index_or new light false ≡ flag_from old (same_before before after light)

  -- the arrays by light follow the lights after the edit, and no light is queued or marked
  pub record IsRenumbered (counts : ℕ → ℕ) (old new : Net) : Type 0 where
    pub rows : AreRowsMoved counts old.rows.items new.rows.items
    pub base : AreRowsMoved counts old.base.items new.base.items
    pub entered : AreFlagsMoved old.entered.items new.entered.items
    pub queue : new.queue ≡ record old.queue { marks = replicate (length after) false; lights = [] }
    pub chain : new.chain ≡ record old.chain { marks = replicate (length after) false; lights = [] }
