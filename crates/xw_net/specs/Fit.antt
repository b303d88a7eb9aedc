-- A net is adapted to the lights and the known words after an edit.
use Rattle.std.specs.Prelude.{◌≡◌, ℕ, ◌+◌, ◌*◌, ◌^◌, ◌<◌, ◌≤◌, Bool, true, false, List, [], ◌∷◌, ◌++◌, length, nat_lt, Option, Some, None, slice_index_or, vec_len, if◌then◌else◌}
use Rattle.xw_bits.specs.Bits.{RowOfBits}
use Rattle.xw_grid.specs.declared.lights.Light.{Light}
use Rattle.xw_net.specs.Room.{size_at, row_at, HasRoom, HasSpare}
use Rattle.xw_net.specs.Renumber.{same_before, AreLights}
use Rattle.xw_net.specs.Nets.{word_stands}
use Rattle.xw_net.specs.Begin.{is_long}
use Rattle.xw_net.specs.Worklist.{is_marked}
use Rattle.xw_net.specs.declared.net.Net.{Net}
use Rattle.xw_net.specs.declared.room.Spare.{Spare}

-- the bits, with one more clear bit if they are fewer than the known words
abbrev pub fitted : ℕ → List Bool → List Bool
fitted known bits = if nat_lt (length bits) known then bits ++ false ∷ [] else bits

-- how many bits a row may lack: one if the changed word has the row's length, else none
abbrev pub lacking : Option (ℕ × ℕ) → ℕ → ℕ
lacking word len = if is_long word len then 1 else 0

-- at most `most` bits are missing
abbrev pub IsNear : ℕ → ℕ → List Bool → Type 0
IsNear known most bits = (length bits ≤ known) × (known ≤ length bits + most)

module _ (lights : List Light) (counts : ℕ → ℕ) where
  -- each light's row lacks at most the bit of the changed word
  abbrev pub AreNear : Option (ℕ × ℕ) → List RowOfBits → Type 0
  AreNear word rows = (light : ℕ) → light < length lights → IsNear (counts (size_at lights light)) (lacking word (size_at lights light)) (row_at rows light).bits

  -- each light's row got the bit that it lacked
  abbrev pub AreFitted : List RowOfBits → List RowOfBits → Type 0
  AreFitted old new = (light : ℕ) → light < length lights → (row_at new light).bits ≡ fitted (counts (size_at lights light)) (row_at old light).bits

-- the state between edits: the arrays have the right sizes, and no light is queued or marked
pub record IsAtRest (lights : List Light) (cells : ℕ) (net : Net) : Type 0 where
  pub few_cells : cells < 2 ^ 32
  pub rows : length lights ≤ vec_len net.rows
  pub base : length lights ≤ vec_len net.base
  pub entered : length lights ≤ vec_len net.entered
  pub letters : vec_len net.letters ≡ cells
  pub held : vec_len net.held ≡ 52 * cells
  pub restart : vec_len net.restart ≡ 2 * cells
  pub pending : vec_len net.pending ≡ 2 * cells
  pub queue : net.queue.lights ≡ []
  pub queued_long : length net.queue.marks ≡ length lights
  pub is_queued : (light : ℕ) → is_marked net.queue.marks light ≡ false
  pub taken : net.chain.lights ≡ []
  pub marked_long : length net.chain.marks ≡ length lights
  pub is_marked : (light : ℕ) → is_marked net.chain.marks light ≡ false

-- the net has room for the lights after an edit: in spare arrays, or in its own if the lights stay
abbrev pub HasRoomBetween : List Light → List Light → (ℕ → ℕ) → Net → Option Spare → Type 0
HasRoomBetween before after counts net None = (after ≡ before) × HasRoom after counts net
HasRoomBetween before after counts net (Some spare) = HasRoom before counts net × HasSpare after counts net spare

-- the net has switched to the lights after an edit, and each light that stays has the data it had
pub record IsTurned (before after : List Light) (old new : Net) : Type 0 where
  pub rows : (light other : ℕ) → light < length after → same_before before after light ≡ Some other → (row_at new.rows.items light).bits ≡ (row_at old.rows.items other).bits
  pub base : (light other : ℕ) → light < length after → same_before before after light ≡ Some other → (row_at new.base.items light).bits ≡ (row_at old.base.items other).bits
  pub entered : (light other : ℕ) → light < length after → same_before before after light ≡ Some other → slice_index_or new.entered.items light false ≡ slice_index_or old.entered.items other false
  pub lights : ((light choice : ℕ) → word_stands old light choice ≡ true → light < length before) → (light choice : ℕ) → word_stands new light choice ≡ true → light < length after
  pub rest : new ≡ record old { rows = new.rows; base = new.base; entered = new.entered; queue = new.queue; chain = new.chain; spare = None }

-- the net stands for the lights before an edit, with room for those after it and for the words; at
-- most the bit of the changed word is missing in each row
pub record CanFollow (before after : List Light) (counts : ℕ → ℕ) (word : Option (ℕ × ℕ)) (net : Net) : Type 0 where
  pub lights : AreLights after
  pub rest : IsAtRest before (vec_len net.letters) net
  pub room : HasRoomBetween before after counts net net.spare
  pub rows : AreNear before counts word net.rows.items
  pub base : AreNear before counts word net.base.items

-- the net has switched to the lights after an edit, with room for the words; at most the bit of the
-- changed word is missing in each row
pub record Follows (before after : List Light) (counts : ℕ → ℕ) (word : Option (ℕ × ℕ)) (old new : Net) : Type 0 where
  pub rest : IsAtRest after (vec_len old.letters) new
  pub rows : AreNear after counts word new.rows.items
  pub base : AreNear after counts word new.base.items
  pub room : HasRoom after counts new
  pub turned : IsTurned before after old new
