-- A net is copied into another.
use Rattle.std.specs.Prelude.{◌≡◌, ℕ, ◌<◌, ◌≤◌, false, List, length}
use Rattle.xw_bits.specs.Bits.{RowOfBits}
use Rattle.xw_grid.specs.declared.lights.Light.{Light}
use Rattle.xw_grid.specs.Light.{lights_of}
use Rattle.xw_feas.specs.State.{State}
use Rattle.xw_net.specs.Fit.{IsAtRest}
use Rattle.xw_net.specs.Net.{flags_of, sets_of, IsSettledFor}
use Rattle.xw_net.specs.Nets.{word_stands, pending_in}
use Rattle.xw_net.specs.Room.{row_at, IsWhole, HasRoom}
use Rattle.xw_net.specs.declared.net.Net.{Net}

-- the net is between edits, with arrays for these lights, numbers of known words by length, and
-- number of cells; its words may be any, but there are none past the lights
pub record IsReusable (lights : List Light) (counts : ℕ → ℕ) (cells : ℕ) (net : Net) : Type 0 where
  pub rest : IsAtRest lights cells net
  pub whole : IsWhole lights counts net
  pub room : HasRoom lights counts net
  pub pending : (slot letter : ℕ) → pending_in net slot letter ≡ false
  pub past : (light choice : ℕ) → length lights ≤ light → word_stands net light choice ≡ false

-- both nets are between edits, with arrays for the same numbers of words and cells
pub record CanCopy (lights : List Light) (net target : Net) : Type 0 where
  pub counts : ℕ → ℕ
  pub cells : ℕ
  pub from : IsReusable lights counts cells net
  pub to : IsReusable lights counts cells target

-- the first rows are as long as those of the other list
abbrev pub AreFirstAsLong : ℕ → List RowOfBits → List RowOfBits → Type 0
AreFirstAsLong count rows from = (light : ℕ) → light < count → length (row_at rows light).bits ≡ length (row_at from light).bits

-- the new net has the answers of another, and is settled for the same states
pub record IsCopy (lights : List Light) (net new : Net) : Type 0 where
  pub flags : flags_of lights new ≡ flags_of lights net
  pub sets : sets_of new ≡ sets_of net
  pub settled : (state : State) → lights_of state.grid ≡ lights → IsSettledFor state net → IsSettledFor state new

-- the first rows are those of another list, and the others have not changed; all keep their room
pub record AreRowsCopied (count : ℕ) (rows old new : List RowOfBits) : Type 0 where
  pub long : length new ≡ length old
  pub done : (light : ℕ) → light < count → (row_at new light).bits ≡ (row_at rows light).bits
  pub left : (light : ℕ) → count ≤ light → (row_at new light).bits ≡ (row_at old light).bits
  pub room : (light : ℕ) → (row_at new light).room ≡ (row_at old light).room
