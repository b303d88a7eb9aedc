-- What a level of a search keeps of a net, and how it leads back to the net before.
use Rattle.std.specs.Prelude.{◌≡◌, ℕ, ◌<◌, List, Contains, length, vec_len}
use Rattle.xw_bits.specs.Bits.{RowOfBits}
use Rattle.xw_grid.specs.EditLaws.{SameShape}
use Rattle.xw_feas.specs.State.{State}
use Rattle.xw_net.specs.Net.{IsSettledFor}
use Rattle.xw_net.specs.Spread.{bits_in}
use Rattle.xw_net.specs.declared.net.Net.{Net}
use Rattle.xw_net.specs.declared.level.KeptRow.{KeptRow}
use Rattle.xw_net.specs.declared.level.Level.{Level}

-- a row of the light is kept
abbrev pub HasKept : List KeptRow → ℕ → Type 0
HasKept kept light = (one : KeptRow) × Contains kept one × (one.light ≡ light)

-- the kept row is that of its light in a list
pub record IsRowOf (one : KeptRow) (rows : List RowOfBits) : Type 0 where
  pub within : one.light < length rows
  pub bits : one.row.bits ≡ bits_in rows one.light

-- each kept row is the one before, and each light of which none is kept has the row that it had
pub record LeadBack (kept : List KeptRow) (rows before : List RowOfBits) : Type 0 where
  pub many : length rows ≡ length before
  pub long : (light : ℕ) → length (bits_in rows light) ≡ length (bits_in before light)
  pub right : (one : KeptRow) → Contains kept one → IsRowOf one before
  pub others : (light : ℕ) → ¬ HasKept kept light → bits_in rows light ≡ bits_in before light

-- the level leads back from a net to the one before: what it does not keep has not changed
pub record IsWay (level : Level) (now before : Net) : Type 0 where
  pub rows : LeadBack level.rows.items now.rows.items before.rows.items
  pub base : LeadBack level.base.items now.base.items before.base.items
  pub letters : level.letters.items ≡ before.letters.items
  pub entered : level.entered.items ≡ before.entered.items
  pub as_many_letters : vec_len now.letters ≡ vec_len before.letters
  pub as_many_flags : vec_len now.entered ≡ vec_len before.entered
  pub held : now.held.items ≡ before.held.items
  pub restart : now.restart.items ≡ before.restart.items

-- the net has the rows, letters and supports of another one
pub record IsLike (net other : Net) : Type 0 where
  pub rows : (light : ℕ) → bits_in net.rows.items light ≡ bits_in other.rows.items light
  pub base : (light : ℕ) → bits_in net.base.items light ≡ bits_in other.base.items light
  pub letters : net.letters.items ≡ other.letters.items
  pub entered : net.entered.items ≡ other.entered.items
  pub held : net.held.items ≡ other.held.items
  pub restart : net.restart.items ≡ other.restart.items

-- the net is like another one, with as many rows, sets and flags, so that ways back to others lead back from it too
pub record IsAsLong (old new : Net) : Type 0 where
  pub like : IsLike new old
  pub rows : length new.rows.items ≡ length old.rows.items
  pub base : length new.base.items ≡ length old.base.items
  pub letters : vec_len new.letters ≡ vec_len old.letters
  pub flags : vec_len new.entered ≡ vec_len old.entered

-- the net is as before
pub record IsBack (old new : Net) : Type 0 where
  pub as_long : IsAsLong old new
  pub settled : (state : State) → ∥ IsSettledFor state old ∥₁ → ∥ IsSettledFor state new ∥₁

-- a net that was settled for a state is as before: settled for each state with the same lights, cells and words for which the net
-- before was
pub record IsBackFrom (now : State) (before new : Net) : Type 0 where
  pub as_long : IsAsLong before new
  pub settled : (state : State) → SameShape state.grid now.grid → state.words ≡ now.words → ∥ IsSettledFor state before ∥₁ → ∥ IsSettledFor state new ∥₁
