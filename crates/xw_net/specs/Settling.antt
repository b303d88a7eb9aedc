-- How a caller of a net meets the conditions of `Net::settle` and `Net::revive`.
use Rattle.std.specs.Prelude.{◌≡◌, ℕ, true, false, is_some, List, None, Ok, length, vec_len}
use Rattle.xw_words.specs.Dictionary.{Entry}
use Rattle.xw_grid.specs.Grid.{Grid, IsGrid}
use Rattle.xw_grid.specs.declared.lights.Light.{Light}
use Rattle.xw_grid.specs.Light.{lights_of}
use Rattle.xw_feas.specs.Board.{board_of}
use Rattle.xw_feas.specs.Shape.{SameCounts}
use Rattle.xw_feas.specs.State.{State, Action, after}
use Rattle.xw_feas.specs.WellFormed.{IsWellFormed}
use Rattle.xw_feas.specs.declared.notes.Notes.{Notes}
use Rattle.xw_net.specs.declared.net.Net.{Net}
use Rattle.xw_net.specs.Change.{Fields, IsChange, AreReadsOf, before_of, cells_of, word_of, entries_written, fields_of, word_changed, brings_back}
use Rattle.xw_net.specs.Filled.{AreLong}
use Rattle.xw_net.specs.Fit.{HasRoomBetween}
use Rattle.xw_net.specs.Net.{HasRoomFor, IsSettledFor, StoodFor, known_counts}
use Rattle.xw_net.specs.Region.{turns_words}
use Rattle.xw_net.specs.Room.{counts_of}
use Rattle.xw_net.specs.Update.{AreInside}

-- The edit was applied to a well-formed state, and the change tells what it has to: the cells that the edit wrote, each with
-- its entry before; the lights before it; the word that it added or struck; the lengths in which a new least grade made words
-- active or left them out; and whether this grade is below the one before.
pub record IsTold (before now : State) (action : Action) (change : Fields) : Type 0 where
  pub made : after before action ≡ Ok now
  pub formed_before : IsWellFormed before
  pub cells : change.cells ≡ entries_written before.grid action
  pub lights : change.before ≡ lights_of before.grid
  pub word : change.word ≡ word_changed before.words action
  pub turned : (len : ℕ) → change.turned len ≡ turns_words before.words action len
  pub back : change.back ≡ brings_back before.words action

-- the conditions on a change and a net, except those on the room
pub record CanSettle (grid : Grid) (lights : List Light) (entries : ℕ → List Entry) (change : Notes) (net : Net) : Type 0 where
  pub inside : AreInside grid (cells_of change)
  pub long : AreLong (board_of grid) entries
  pub cells : vec_len net.letters ≡ length grid.squares
  pub stood : StoodFor (before_of lights change) (word_of change) (counts_of entries) net

-- A change that tells of an edit describes it. The condition `IsGrid` holds of every `Grid`.
abbrev pub ToldIsChange : Type 0
ToldIsChange = (before now : State) (action : Action) (change : Fields) → IsTold before now action change → IsGrid now.grid → IsChange before now action change

-- A net that was settled before an edit is told of it. The reads return the words after the edit.
pub record IsToldOf (before now : State) (action : Action) (lights : List Light) (entries : ℕ → List Entry) (change : Notes) (net : Net) : Type 0 where
  pub told : IsTold before now action (fields_of lights change)
  pub grid : IsGrid now.grid
  pub reads : AreReadsOf entries now.words
  pub settled : ∥ IsSettledFor before net ∥₁

-- if a net is told of an edit in this way, it meets the conditions
abbrev pub ToldCanSettle : Type 0
ToldCanSettle =
    (before now : State) (action : Action) (lights : List Light) (entries : ℕ → List Entry) (change : Notes) (net : Net) → IsToldOf before now action lights entries change net
    → CanSettle now.grid lights entries change net

-- an edit that keeps the lights and the number of known words needs no room
abbrev pub RoomIsKept : Type 0
RoomIsKept =
    (before now : State) (action : Action) (lights : List Light) (entries : ℕ → List Entry) (change : Notes) (net : Net) → IsToldOf before now action lights entries change net
    → is_some net.spare ≡ false → lights ≡ before_of lights change → SameCounts before.words now.words
    → HasRoomBetween (before_of lights change) lights (counts_of entries) net net.spare

-- For any other edit, the room that `Net::reserve` made is enough. Without spare arrays, the edit must keep the lights; with them, it
-- must keep the words.
abbrev pub RoomIsReserved : Type 0
RoomIsReserved =
    (before now : State) (action : Action) (lights : List Light) (entries : ℕ → List Entry) (change : Notes) (net : Net) → IsToldOf before now action lights entries change net
    → HasRoomFor lights (known_counts now.words) net → (is_some net.spare ≡ false → lights ≡ before_of lights change) → (is_some net.spare ≡ true → word_of change ≡ None)
    → HasRoomBetween (before_of lights change) lights (counts_of entries) net net.spare
