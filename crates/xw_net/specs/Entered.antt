-- Entering letters in empty cells in a search: what changes in a net before it is stripped.
use Rattle.std.specs.Prelude.{◌≡◌, ◌⊎◌, ℕ, ◌<◌, ◌&&◌, true, false, None, Some, Option, List, Contains, length, slice_index, slice_index_or}
use Rattle.xw_words.specs.Dictionary.{Dictionary, Entry}
use Rattle.xw_grid.specs.declared.cell.Cell.{Cell}
use Rattle.xw_grid.specs.Grid.{Grid, index_of}
use Rattle.xw_feas.specs.Board.{Board, board_of, entry, light_at, is_wholly_entered, spelled}
use Rattle.xw_feas.specs.Feasible.{IsFeasibleWord, may_stand}
use Rattle.xw_feas.specs.Flags.{set_has}
use Rattle.xw_feas.specs.State.{State}
use Rattle.xw_feas.specs.WellFormed.{IsWellFormed}
use Rattle.xw_net.specs.Base.{base_row, WasBase}
use Rattle.xw_net.specs.Begin.{IsNarrowed}
use Rattle.xw_net.specs.Filled.{IsFilled}
use Rattle.xw_net.specs.Marks.{IsSetting}
use Rattle.xw_net.specs.Net.{IsSettledFor}
use Rattle.xw_net.specs.Spread.{bits_in, IsThrough}
use Rattle.xw_net.specs.Worklist.{Adds, is_marked}
use Rattle.xw_net.specs.declared.net.Net.{Net}

-- the cell was written, and was empty before; the written cells come with their entries before
abbrev pub IsNew : Grid → List (Cell × Option ℕ) → ℕ → Type 0
IsNew grid written cell = (listed : Cell) × Contains written (listed, None) × (index_of grid listed ≡ cell)

-- the light passes through such a cell
abbrev pub IsThroughNew : Grid → Board → List (Cell × Option ℕ) → ℕ → Type 0
IsThroughNew grid board written light = (cell : ℕ) × IsNew grid written cell × IsThrough board cell light

-- if a cell is given, it was written, and was empty before, and so was no other cell of the light
abbrev pub IsOnlyNew : Grid → Board → List (Cell × Option ℕ) → ℕ → Option ℕ → Type 0
IsOnlyNew grid board written light filled = (cell : ℕ) → filled ≡ Some cell
    → IsNew grid written cell × ((position : ℕ) → position < length (light_at board light) → IsNew grid written (slice_index (light_at board light) position) → slice_index (light_at board light) position ≡ cell)

-- the cell has those of its letters that it allows
abbrev pub IsNarrowedCell : Board → ℕ → List ℕ → List ℕ → Type 0
IsNarrowedCell board cell old new = (letter : ℕ) → set_has new cell letter ≡ (set_has old cell letter && may_stand board cell letter)

-- the cell has the letters that it had
abbrev pub IsSameCell : ℕ → List ℕ → List ℕ → Type 0
IsSameCell cell old new = (letter : ℕ) → set_has new cell letter ≡ set_has old cell letter

-- the cells that were empty have only letters that they allow, and the others stay
abbrev pub AreNarrowedIn : Grid → Board → List (Cell × Option ℕ) → List ℕ → List ℕ → Type 0
AreNarrowedIn grid board written old new = (cell : ℕ) → IsNarrowedCell board cell old new ⊎ ((¬ IsNew grid written cell) × IsSameCell cell old new)

-- the light has the rows and the flag that it had
pub record IsUnchanged (light : ℕ) (old new : Net) : Type 0 where
  pub rows : bits_in new.rows.items light ≡ bits_in old.rows.items light
  pub base : bits_in new.base.items light ≡ bits_in old.base.items light
  pub flag : slice_index_or new.entered.items light false ≡ slice_index_or old.entered.items light false

-- the light has its base words and those of them that it had; `filled` is its cell that got a letter, if only one did
pub record IsNarrowedTo (board : Board) (entries : ℕ → List Entry) (filled : Option ℕ) (light : ℕ) (old new : Net) : Type 0 where
  pub base : WasBase board entries filled light (bits_in old.base.items light) → bits_in new.base.items light ≡ base_row board entries light
  pub rows : IsNarrowed board None light new.base.items old.rows.items new.rows.items
  pub flag : slice_index_or new.entered.items light false ≡ is_wholly_entered board (light_at board light)

-- the light has its base words and those of them that it had
pub record IsNarrowedIn (grid : Grid) (board : Board) (entries : ℕ → List Entry) (written : List (Cell × Option ℕ)) (light : ℕ) (old new : Net) : Type 0 where
  pub filled : Option ℕ
  pub only : IsOnlyNew grid board written light filled
  pub narrowed : IsNarrowedTo board entries filled light old new

-- the lights through the cells that got letters are queued and narrowed, the others stay, and these cells have only letters
-- that they allow
pub record IsEnteredIn (grid : Grid) (board : Board) (entries : ℕ → List Entry) (written : List (Cell × Option ℕ)) (old new : Net) : Type 0 where
  pub queue : Adds (IsThroughNew grid board written) old.queue new.queue
  pub on : (light : ℕ) → light < length board.lights → is_marked new.queue.marks light ≡ true → IsNarrowedIn grid board entries written light old new
  pub off : (light : ℕ) → is_marked new.queue.marks light ≡ false → IsUnchanged light old new
  pub letters : AreNarrowedIn grid board written old.letters.items new.letters.items
  pub rest : new ≡ record old { rows = new.rows; base = new.base; entered = new.entered; letters = new.letters; queue = new.queue }

-- letters were entered in empty cells of a board, and each light that they complete spells a word that was feasible
pub record IsEntered (before : Board) (dictionary : Dictionary) (grid : Grid) (written : List (Cell × Option ℕ)) (board : Board) : Type 0 where
  pub entries_only : board ≡ record before { entries = board.entries }
  pub empty : (cell : ℕ) → IsNew grid written cell → entry before cell ≡ None
  pub others : (cell : ℕ) → ¬ IsNew grid written cell → entry board cell ≡ entry before cell
  pub spelled : (light : ℕ) → light < length before.lights → is_wholly_entered before (light_at before light) ≡ false → is_wholly_entered board (light_at before light) ≡ true
      → IsFeasibleWord before dictionary light (spelled board (light_at before light))

-- stripping ends with a net that is settled for the board, if it was settled for the board without the letters
abbrev pub FillsEntered : Grid → Board → (ℕ → List Entry) → List (Cell × Option ℕ) → Net → Net → Type 0
FillsEntered grid board entries written old new =
    (before : Board) (dictionary : Dictionary) → IsSetting board entries dictionary → IsEntered before dictionary grid written board → IsFilled before dictionary old → IsFilled board dictionary new

-- in the same case the light has no feasible word
abbrev pub DiesEntered : Grid → Board → (ℕ → List Entry) → List (Cell × Option ℕ) → Net → ℕ → Type 0
DiesEntered grid board entries written old light =
    (before : Board) (dictionary : Dictionary) → IsSetting board entries dictionary → IsEntered before dictionary grid written board → IsFilled before dictionary old
    → (word : List ℕ) → ¬ IsFeasibleWord board dictionary light word

-- a net is settled for a state, and letters were entered in its grid as a search enters them
pub record IsTriedOn (now : State) (written : List (Cell × Option ℕ)) (net : Net) : Type 0 where
  pub before : State
  pub settled : ∥ IsSettledFor before net ∥₁
  pub words : now.words ≡ before.words
  pub formed : IsWellFormed now
  pub cells : length now.grid.squares ≡ length before.grid.squares
  pub entered : IsEntered (board_of before.grid) now.words now.grid written (board_of now.grid)
