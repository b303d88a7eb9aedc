-- What each phase of an update leaves for the next one. A net stores neither the edit nor the dictionary. So each statement
-- holds for every state before the edit, every edit that the change describes, and every dictionary that the reads return.
use Rattle.std.specs.Prelude.{◌≡◌, ℕ, ◌+◌, ◌≤◌, Bool, true, List, Option, Contains}
use Rattle.xw_words.specs.Dictionary.{Dictionary, Entry}
use Rattle.xw_grid.specs.declared.cell.Cell.{Cell}
use Rattle.xw_grid.specs.Grid.{Grid, is_inside}
use Rattle.xw_grid.specs.declared.lights.Light.{Light}
use Rattle.xw_grid.specs.Light.{lights_of}
use Rattle.xw_feas.specs.Board.{Board, board_of}
use Rattle.xw_feas.specs.State.{State, Action}
use Rattle.xw_feas.specs.WellFormed.{IsWellFormed}
use Rattle.xw_net.specs.declared.net.Net.{Net}
use Rattle.xw_net.specs.Room.{row_at}
use Rattle.xw_net.specs.Region.{IsRegion, cost}
use Rattle.xw_net.specs.Cost.{revival_cost, stripping_cost}
use Rattle.xw_net.specs.Nets.{IsShaped, IsChained, HasBits, IsQueue}
use Rattle.xw_net.specs.Brought.{HasBase}
use Rattle.xw_net.specs.Filled.{AreLong, HasRowRoom, IsUnstripped, IsFilled}
use Rattle.xw_net.specs.Change.{Fields, IsChange, AreReadsOf}
use Rattle.xw_net.specs.Net.{IsSettledFor, IsRevivedFor}
use Rattle.xw_net.specs.Steps.{PendLess}
use Rattle.xw_net.specs.Worklist.{HasSeeds}
use Rattle.xw_net.specs.Opened.{IsMoved, IsOpened}

-- the listed cells are inside the grid
abbrev pub AreInside : Grid → List (Cell × Option ℕ) → Type 0
AreInside grid cells = (listed : Cell × Option ℕ) → Contains cells listed → is_inside grid listed.0 ≡ true

-- the arrays have the right sizes, with a bit for each known word
pub record IsSized (board : Board) (entries : ℕ → List Entry) (net : Net) : Type 0 where
  pub shaped : IsShaped board net
  pub chained : IsChained board net
  pub bits : HasBits board entries net
  pub base : HasBase board entries net.base.items

-- the net is adapted to the lights after the edit that the change describes, and only seeds are
-- queued or marked
pub record CanBegin (grid : Grid) (board : Board) (lights : List Light) (entries : ℕ → List Entry) (change : Fields) (net : Net) : Type 0 where
  pub boards : board ≡ board_of grid
  pub are_lights : lights ≡ lights_of grid
  pub inside : AreInside grid change.cells
  pub long : AreLong board entries
  pub sized : IsSized board entries net
  pub queued : HasSeeds net.queue
  pub seeds : HasSeeds net.chain

-- no row loses room
pub record KeepsRoom (old new : Net) : Type 0 where
  pub rows : (light : ℕ) → (row_at old.rows.items light).room ≤ (row_at new.rows.items light).room
  pub base : (light : ℕ) → (row_at old.base.items light).room ≤ (row_at new.base.items light).room

-- the net is ready for the revival, and what `begin` must not change has stayed
pub record IsBegun (board : Board) (entries : ℕ → List Entry) (old new : Net) : Type 0 where
  pub sized : IsSized board entries new
  pub queue : IsQueue new
  pub seeds : HasSeeds new.chain
  pub spare : new.spare ≡ old.spare
  pub pending : PendLess old new
  pub room : KeepsRoom old new

-- the grid after an edit and its dictionary
abbrev pub state_of : Grid → Dictionary → State
state_of grid words = record { grid = grid; words = words }

-- a settled net is adapted to the lights after an edit
abbrev pub MovesTo : List Light → List Light → (ℕ → List Entry) → Net → Net → Type 0
MovesTo before after entries old new =
    (was now : State) → before ≡ lights_of was.grid → after ≡ lights_of now.grid → AreReadsOf entries now.words → IsFilled (board_of was.grid) was.words old → IsMoved was now old new

module _ (grid : Grid) (entries : ℕ → List Entry) where
  -- `Net::strip`: if the net had all that is feasible, and perhaps more, and was ready for stripping (`IsUnstripped`), then
  -- it is now settled: it has exactly what is feasible.
  abbrev pub StripsTo : Net → Net → Type 0
  StripsTo old new =
      (words : Dictionary) → AreReadsOf entries words → IsWellFormed (state_of grid words) → IsUnstripped (board_of grid) words old → IsSettledFor (state_of grid words) new

  -- stripping spends at most its cost in the edit's region
  abbrev pub StripsInRegion : Net → ℕ → ℕ → Type 0
  StripsInRegion old ticks ticks' =
      (before : State) (words : Dictionary) (action : Action) (member : List ℕ → Bool) → AreReadsOf entries words → IsWellFormed (state_of grid words)
      → IsRevivedFor before (state_of grid words) action old → IsRegion before (state_of grid words) action member → ticks' ≤ ticks + stripping_cost (state_of grid words) member

  module _ (change : Fields) where
    -- a net that was adapted to the lights is ready for the revival
    abbrev pub Opens : Net → Net → Type 0
    Opens old new =
        (before : State) (words : Dictionary) (action : Action) (settled : Net) → AreReadsOf entries words → IsChange before (state_of grid words) action change
        → IsFilled (board_of before.grid) before.words settled → IsMoved before (state_of grid words) settled old → IsOpened before (state_of grid words) action settled new

    -- a net that was adapted to the lights, with room for the words, is revived
    abbrev pub RevivesMoved : Board → Net → Net → Type 0
    RevivesMoved board old new =
        (before : State) (words : Dictionary) (action : Action) (settled : Net) → AreReadsOf entries words → IsChange before (state_of grid words) action change
        → IsFilled (board_of before.grid) before.words settled → IsMoved before (state_of grid words) settled old
        → HasRowRoom board entries old.rows.items → HasRowRoom board entries old.base.items → IsRevivedFor before (state_of grid words) action new

    -- that revival spends at most the cost of reviving the lights of the edit's region
    abbrev pub RevivesMovedInRegion : Net → ℕ → ℕ → Type 0
    RevivesMovedInRegion old ticks ticks' =
        (before : State) (words : Dictionary) (action : Action) (settled : Net) (member : List ℕ → Bool) → AreReadsOf entries words → IsChange before (state_of grid words) action change
        → IsFilled (board_of before.grid) before.words settled → IsMoved before (state_of grid words) settled old
        → IsRegion before (state_of grid words) action member → ticks' ≤ ticks + revival_cost (state_of grid words) member

    -- `Net::revive`: if the net was settled before the edit, then it is now revived: it has all that is feasible after the
    -- edit, and perhaps more.
    abbrev pub Revives : Net → Net → Type 0
    Revives old new =
        (before : State) (words : Dictionary) (action : Action) → AreReadsOf entries words → IsChange before (state_of grid words) action change
        → IsSettledFor before old → IsRevivedFor before (state_of grid words) action new

    -- `Net::revive` spends at most the cost of reviving the lights of the edit's region
    abbrev pub RevivesInRegion : Net → ℕ → ℕ → Type 0
    RevivesInRegion old ticks ticks' =
        (before : State) (words : Dictionary) (action : Action) (member : List ℕ → Bool) → AreReadsOf entries words → IsChange before (state_of grid words) action change
        → IsSettledFor before old → IsRegion before (state_of grid words) action member → ticks' ≤ ticks + revival_cost (state_of grid words) member

    -- `Net::settle`: if the net was settled before the edit, then it is settled after it: it has exactly what is feasible.
    abbrev pub Settles : Net → Net → Type 0
    Settles old new =
        (before : State) (words : Dictionary) (action : Action) → AreReadsOf entries words → IsChange before (state_of grid words) action change
        → IsSettledFor before old → IsSettledFor (state_of grid words) new

    -- an update spends at most its cost in the edit's region
    abbrev pub SettlesInRegion : Net → ℕ → ℕ → Type 0
    SettlesInRegion old ticks ticks' =
        (before : State) (words : Dictionary) (action : Action) (member : List ℕ → Bool) → AreReadsOf entries words → IsChange before (state_of grid words) action change
        → IsSettledFor before old → IsRegion before (state_of grid words) action member → ticks' ≤ ticks + cost (state_of grid words) member
