-- The placements of a search that can be taken back.
use Rattle.std.specs.Prelude.{◌≡◌, ℕ, ◌<◌, List, [], ◌∷◌, ◌++◌, All, map, length}
use Rattle.xw_words.specs.Dictionary.{Dictionary, known_words}
use Rattle.std.specs.Coded.{Coded-set, coded_ℕ, coded_bool, coded_list}
use mathlib.Core.HLevel.{Π_prop, ×_prop}
use Rattle.xw_grid.specs.EditLaws.{SameShape}
use Rattle.xw_grid.specs.Grid.{Grid}
use Rattle.xw_feas.specs.Board.{Board, board_of}
use Rattle.xw_feas.specs.Single.{IsWellFormed-prop, SameShape-prop}
use Rattle.xw_feas.specs.State.{State}
use Rattle.xw_feas.specs.declared.pending.Pending.{Pending}
use Rattle.xw_feas.specs.declared.pending.Pending.TheVariants.{InPlace, Shape, New}
use Rattle.xw_feas.specs.WellFormed.{IsWellFormed}
use Rattle.xw_net.specs.Level.{IsWay}
use Rattle.xw_net.specs.Seen.{AreSeen}
use Rattle.xw_net.specs.Single.{IsWay-prop, AreSeen-prop}
use Rattle.xw_net.specs.declared.net.Net.{Net}
use Rattle.xw_live.specs.Engine.{IsKept, IsKept-prop}
use Rattle.xw_live.specs.declared.levels.Placement.{Placement}
use Rattle.xw_live.specs.declared.levels.Levels.{Levels}

-- the state before a placement
abbrev pub state_before : Dictionary → Placement → State
state_before words placement = record { grid = placement.grid; words = words }

-- the states before placements
abbrev pub states_before : Dictionary → List Placement → List State
states_before words placements = map (state_before words) placements

-- the grid has the shape of that of a placement
abbrev pub HasShapeOf : Grid → Placement → Type 0
HasShapeOf grid placement = SameShape grid placement.grid

-- the grid has as many cells as that of a placement
abbrev pub HasSizeOf : Grid → Placement → Type 0
HasSizeOf grid placement = length placement.grid.squares ≡ length grid.squares

-- the boards differ in entries only
abbrev pub SameCells : Board → Board → Type 0
SameCells one other = (one.lights ≡ other.lights) × (one.open_cells ≡ other.open_cells)

-- the placement keeps a net with the answers for the state before it
pub record IsPlacementIn (state : State) (placement : Placement) : Type 0 where
  pub shape : HasShapeOf state.grid placement
  pub cells : SameCells (board_of placement.grid) (board_of state.grid)
  pub formed : IsWellFormed (state_before state.words placement)
  pub kept : IsKept (state_before state.words placement) placement.net.value

-- the net before the first placement; without any, the net now
abbrev pub first_net : List Placement → Net → Net
first_net [] now = now
first_net (placement ∷ rest) now = placement.net.value

-- each placement leads back from the net after it to the one before it
abbrev pub AreWays : List Placement → Net → Type 0
AreWays [] now = Unit {0}
AreWays (placement ∷ rest) now = IsWay placement.level (first_net rest now) placement.net.value × AreWays rest now

-- the words that are remembered, if there is a table of them, have the letters that they are remembered for
abbrev pub AreRemembered : State → List ℕ → Type 0
AreRemembered state seen = 0 < length seen → AreSeen (board_of state.grid) (known_words state.words) seen

-- the words that are remembered after an edit: only one in place keeps them
abbrev pub seen_after : Pending → List ℕ → List ℕ
seen_after (InPlace edit) seen = seen
seen_after (Shape edit) seen = []
seen_after (New word grade) seen = []

-- an edit in place leads to a grid of the same shape
abbrev pub IsOfShape : Pending → Grid → Grid → Type 0
IsOfShape (InPlace edit) old new = SameShape old new
IsOfShape (Shape edit) old new = Unit {0}
IsOfShape (New word grade) old new = Unit {0}

-- the placements lead to a state and its net, one after another
pub record AreLevels (state : State) (levels : Levels) (net : Net) : Type 0 where
  pub made : All (IsPlacementIn state) levels.made.items
  pub ways : AreWays levels.made.items net
  pub spare : All (HasSizeOf state.grid) levels.spare.items
  pub seen : AreRemembered state levels.trail.seen.items

-- ---- the facts are propositions (two proofs of one are equal), so a ghost field can hold them

placement_prop : (state : State) (placement : Placement) → IsProp (IsPlacementIn state placement)
placement_prop state placement x y = λ i. record {
  shape = SameShape-prop state.grid placement.grid x.shape y.shape i;
  cells = ×_prop (Coded-set (coded_list (coded_list coded_ℕ)) _ _) (Coded-set (coded_list coded_bool) _ _) x.cells y.cells i;
  formed = IsWellFormed-prop (state_before state.words placement) x.formed y.formed i;
  kept = IsKept-prop (state_before state.words placement) placement.net.value x.kept y.kept i;
}

ways_prop : (placements : List Placement) (now : Net) → IsProp (AreWays placements now)
ways_prop [] now = λ x y i. tt
ways_prop (placement ∷ rest) now = ×_prop (IsWay-prop placement.level (first_net rest now) placement.net.value) (ways_prop rest now)

pub AreLevels-prop : (state : State) (levels : Levels) (net : Net) → IsProp (AreLevels state levels net)
AreLevels-prop state levels net x y = λ i. record {
  made = Π_prop (λ k. Π_prop (λ d. Π_prop (λ below. placement_prop state _))) x.made y.made i;
  ways = ways_prop levels.made.items net x.ways y.ways i;
  spare = Π_prop (λ k. Π_prop (λ d. Π_prop (λ below. Coded-set coded_ℕ _ _))) x.spare y.spare i;
  seen = Π_prop (λ some. AreSeen-prop (board_of state.grid) (known_words state.words) levels.trail.seen.items) x.seen y.seen i;
}

-- the placement begins at a grid with a net
pub record IsBegunAt (grid : Grid) (net : Net) (placement : Placement) : Type 0 where
  pub grid_is : placement.grid ≡ grid
  pub net_is : placement.net.value ≡ net
  pub way : IsWay placement.level net net

-- the last placement, which begins at a grid with a net, was put behind others
pub record IsLastOf (grid : Grid) (net : Net) (others all : List Placement) : Type 0 where
  pub placement : Placement
  pub all_are : all ≡ others ++ placement ∷ []
  pub begun : IsBegunAt grid net placement

-- the last of the placements, after others, keeps a net, and a grid of this shape
pub record IsLastIn (grid : Grid) (net : Net) (others all : List Placement) : Type 0 where
  pub placement : Placement
  pub all_are : all ≡ others ++ placement ∷ []
  pub shape : HasShapeOf grid placement
  pub net_is : placement.net.value ≡ net
  pub way : IsWay placement.level net net

-- the last of the placements leads back from a net to the one before, and keeps the grid and the net that it kept
pub record IsLedTo (before : Net) (others old new : List Placement) (now : Net) : Type 0 where
  pub placement : Placement
  pub all_are : new ≡ others ++ placement ∷ []
  pub same_grid : (last : Placement) → old ≡ others ++ last ∷ [] → placement.grid ≡ last.grid
  pub same_net : (last : Placement) → old ≡ others ++ last ∷ [] → placement.net.value ≡ last.net.value
  pub way : IsWay placement.level now before

-- what a try that failed leaves: the others, and the grid that the last placement kept
pub record IsLeft (others : List Placement) (last : Placement) (old new : List Placement) (grid : Grid) : Type 0 where
  pub all_are : new ≡ others
  pub grid_is : grid ≡ last.grid
