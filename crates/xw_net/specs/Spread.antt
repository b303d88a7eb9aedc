-- How words and letters come back along a chain of lights.
use Rattle.std.specs.Prelude.{◌≡◌, ℕ, ◌<◌, Bool, true, false, not, ◌&&◌, ◌||◌, nat_le, ◌==◌, List, length, count_by, slice_get, slice_index_or}
use Rattle.xw_bits.specs.Bits.{RowOfBits}
use Rattle.xw_letters.specs.Letter.{is_capital}
use Rattle.xw_feas.specs.Board.{Board, light_at, is_wholly_entered}
use Rattle.xw_feas.specs.Feasible.{may_stand}
use Rattle.xw_feas.specs.Flags.{set_has}
use Rattle.xw_net.specs.Marks.{IsPositionIn, cell_at, slot_at}
use Rattle.xw_net.specs.Nets.{bits_at}
use Rattle.xw_net.specs.Worklist.{ListOfLights, is_marked, is_waiting}

-- the positions of a light from one on
abbrev pub positions_from : ℕ → ℕ → ℕ → ℕ → Bool
positions_from light position other other_position = (other == light) && nat_le position other_position

-- the positions that are among one set or among another
abbrev pub either_position : (ℕ → ℕ → Bool) → (ℕ → ℕ → Bool) → ℕ → ℕ → Bool
either_position some others light position = some light position || others light position

-- no positions
abbrev pub no_positions : ℕ → ℕ → Bool
no_positions light position = false

-- the bits of a light's row
abbrev pub bits_in : List RowOfBits → ℕ → List Bool
bits_in rows light = bits_at (slice_get rows light)

-- the light's row has as many bits as its base row
abbrev pub IsAsLong : ℕ → List RowOfBits → List RowOfBits → Type 0
IsAsLong light rows base = length (bits_in rows light) ≡ length (bits_in base light)

-- the rows of the other lights stay
abbrev pub OtherRowsStay : ℕ → List RowOfBits → List RowOfBits → Type 0
OtherRowsStay light old new = (other : ℕ) → (other ≡ light → ⊥) → bits_in new other ≡ bits_in old other

-- the letters of the other cells stay
abbrev pub OtherCellsStay : ℕ → List ℕ → List ℕ → Type 0
OtherCellsStay cell old new = (other letter : ℕ) → (other ≡ cell → ⊥) → set_has new other letter ≡ set_has old other letter

-- the arrays that a revival changes: the known words in the net, whether the entered word is, for
-- each slot the letters for which words may have come back, and whether each light is queued
pub record Lit : Type 0 where
  pub rows : List RowOfBits
  pub entered : List Bool
  pub restart : List ℕ
  pub queued : List Bool

-- the arrays that a revival changes, as a record
abbrev pub lit : List RowOfBits → List Bool → List ℕ → ListOfLights → Lit
lit rows entered restart queue = record { rows = rows; entered = entered; restart = restart; queued = queue.marks }

-- whether a light has no base word: no bit of its base row is set, and some cell of it has no letter
abbrev pub is_barren : Board → List RowOfBits → ℕ → Bool
is_barren board base light = (count_by (λ bit. bit) (bits_in base light) == 0) && not (is_wholly_entered board (light_at board light))

-- the positions of the lights without a base word
abbrev pub barren_positions : Board → List RowOfBits → ℕ → ℕ → Bool
barren_positions board base light position = is_barren board base light

module _ (board : Board) where
  -- each light's row has as many bits as its base row
  abbrev pub AreAsLong : List RowOfBits → List RowOfBits → Type 0
  AreAsLong rows base = (light : ℕ) → light < length board.lights → IsAsLong light rows base

  -- a light through the cell
  abbrev pub IsThrough : ℕ → ℕ → Type 0
  IsThrough cell light = (position : ℕ) × IsPositionIn board light position × (cell_at board light position ≡ cell)

  -- the cell has all letters that it allows
  abbrev pub HasAll : (ℕ → ℕ → Bool) → ℕ → Type 0
  HasAll letters cell = (letter : ℕ) → may_stand board cell letter ≡ true → letters cell letter ≡ true

  -- all searches for a support in the light start at the first word again
  abbrev pub RestartsLight : ℕ → List ℕ → Type 0
  RestartsLight light restart = (position letter : ℕ) → position < length (light_at board light) → is_capital letter ≡ true → set_has restart (slot_at board light position) letter ≡ true

  -- searches for a support in other lights start where they would have before
  abbrev pub OtherSlotsStay : ℕ → List ℕ → List ℕ → Type 0
  OtherSlotsStay light restart restart' = (slot : ℕ) → ((position : ℕ) → position < length (light_at board light) → slot_at board light position ≡ slot → ⊥)
      → slice_index_or restart' slot 0 ≡ slice_index_or restart slot 0

  -- the letters that came back while the chain grows
  pub record IsSpread (old new : ℕ → ℕ → Bool) (marked waiting : ℕ → Bool) (coming : ℕ → ℕ → Bool) : Type 0 where
    -- the cells of marked lights have all letters that they allow, except at lights that are still
    -- on the list and positions still to come
    pub on : (light position : ℕ) → IsPositionIn board light position → marked light ≡ true → waiting light ≡ false → coming light position ≡ false → HasAll new (cell_at board light position)
    -- each light through a cell that got a letter is marked
    pub reaches : (light position letter : ℕ) → IsPositionIn board light position
        → new (cell_at board light position) letter ≡ true → old (cell_at board light position) letter ≡ false → marked light ≡ true
    -- a letter was there or is allowed, and an allowed letter that was there stays
    pub from : (cell letter : ℕ) → new cell letter ≡ true → (old cell letter || may_stand board cell letter) ≡ true
    pub stay : (cell letter : ℕ) → may_stand board cell letter ≡ true → old cell letter ≡ true → new cell letter ≡ true

  -- a step keeps `IsSpread`; `coming` and `coming'` are the positions still to come before and after it
  abbrev pub SpreadsOn : (ℕ → ℕ → Bool) → (ℕ → ℕ → Bool) → List ℕ → ListOfLights → (ℕ → ℕ → Bool) → List ℕ → ListOfLights → Type 0
  SpreadsOn start coming letters chain coming' letters' chain' =
      IsSpread start (set_has letters) (is_marked chain.marks) (is_waiting chain.lights) coming → IsSpread start (set_has letters') (is_marked chain'.marks) (is_waiting chain'.lights) coming'

  -- letters came back in a step between lights, and the chain grew
  abbrev pub KeepsSpread : List ℕ → ListOfLights → List ℕ → ListOfLights → Type 0
  KeepsSpread letters chain letters' chain' = (start : ℕ → ℕ → Bool) → SpreadsOn start no_positions letters chain no_positions letters' chain'

  -- a set that contains, with a light, every light through a cell of it where a letter may come
  -- back
  abbrev pub IsReachClosed : (ℕ → ℕ → Bool) → (ℕ → Bool) → Type 0
  IsReachClosed letters member =
      (light position other other_position : ℕ) → IsPositionIn board light position → IsPositionIn board other other_position
      → cell_at board other other_position ≡ cell_at board light position → ¬ HasAll letters (cell_at board light position) → member light ≡ true → member other ≡ true

  -- the chain grew only within each such set that contains the lights that were marked
  abbrev pub Reaches : (ℕ → ℕ → Bool) → ListOfLights → ListOfLights → Type 0
  Reaches letters chain chain' =
      (member : ℕ → Bool) → IsReachClosed letters member → ((light : ℕ) → is_marked chain.marks light ≡ true → member light ≡ true) → (light : ℕ) → is_marked chain'.marks light ≡ true → member light ≡ true

  -- a step of a spread reaches only lights of each such set
  abbrev pub ReachesFrom : (ℕ → ℕ → Bool) → (ℕ → ℕ → Bool) → List ℕ → ListOfLights → ListOfLights → Type 0
  ReachesFrom start coming letters chain chain' = IsSpread start (set_has letters) (is_marked chain.marks) (is_waiting chain.lights) coming → Reaches start chain chain'

  -- the words that came back while the chain grows: each marked light that is no longer on the
  -- list has the words of its base row, and is queued
  pub record IsLit (base : List RowOfBits) (old new : Lit) (marked waiting : ℕ → Bool) : Type 0 where
    pub rows_on : (light : ℕ) → light < length board.lights → marked light ≡ true → waiting light ≡ false → bits_in new.rows light ≡ bits_in base light
    pub rows_off : (light : ℕ) → marked light ≡ false → bits_in new.rows light ≡ bits_in old.rows light
    pub entered_on : (light : ℕ) → light < length board.lights → marked light ≡ true → waiting light ≡ false → slice_index_or new.entered light false ≡ is_wholly_entered board (light_at board light)
    pub entered_off : (light : ℕ) → marked light ≡ false → slice_index_or new.entered light false ≡ slice_index_or old.entered light false
    pub restart_on : (light position letter : ℕ) → IsPositionIn board light position → marked light ≡ true → waiting light ≡ false → is_capital letter ≡ true
        → set_has new.restart (slot_at board light position) letter ≡ true
    pub restart_off : (slot : ℕ) → ((light position : ℕ) → IsPositionIn board light position → slot_at board light position ≡ slot → marked light ≡ false)
        → slice_index_or new.restart slot 0 ≡ slice_index_or old.restart slot 0
    pub queued_on : (light : ℕ) → light < length board.lights → marked light ≡ true → waiting light ≡ false → slice_index_or new.queued light false ≡ true
    pub queued_off : (light : ℕ) → marked light ≡ false → slice_index_or new.queued light false ≡ slice_index_or old.queued light false
    -- the lengths stay
    pub rows_long : length new.rows ≡ length old.rows
    pub bits_long : (light : ℕ) → length (bits_in new.rows light) ≡ length (bits_in old.rows light)
    pub entered_long : length new.entered ≡ length old.entered
    pub restart_long : length new.restart ≡ length old.restart
    pub queued_long : length new.queued ≡ length old.queued

  -- a marked light that was taken from the list gets its words
  abbrev pub Brings : List RowOfBits → ℕ → Lit → Lit → Type 0
  Brings base light old new =
      (start : Lit) (marked waiting left : ℕ → Bool) → marked light ≡ true → ((other : ℕ) → (other ≡ light → ⊥) → left other ≡ false → waiting other ≡ false)
      → IsLit base start old marked waiting → IsLit base start new marked left

-- no light waits
abbrev pub none_waits : ℕ → Bool
none_waits light = false

-- each marked light is on the list
abbrev pub IsListed : ListOfLights → Type 0
IsListed list = (light : ℕ) → is_marked list.marks light ≡ true → is_waiting list.lights light ≡ true
