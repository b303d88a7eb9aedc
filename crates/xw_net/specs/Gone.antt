-- Removed lights, and letters that come back at their cells.
use Rattle.std.specs.Prelude.{◌≡◌, ℕ, ◌<◌, true, List, length, slice_get, Some, None}
use Rattle.xw_grid.specs.declared.lights.Light.{Light}
use Rattle.xw_grid.specs.Grid.{Grid, index_of, is_inside}
use Rattle.xw_grid.specs.Light.{step}
use Rattle.xw_feas.specs.Board.{Board}
use Rattle.xw_feas.specs.Feasible.{may_stand}
use Rattle.xw_feas.specs.Flags.{set_has}
use Rattle.xw_net.specs.Spread.{HasAll, IsThrough, KeepsSpread}
use Rattle.xw_net.specs.Worklist.{ListOfLights, Grows, HasSeeds, MarksOnly}
use Rattle.xw_net.specs.Renumber.{same_before}

-- the cell is that of a light at a position
pub record IsAlong (grid : Grid) (light : Light) (position cell : ℕ) : Type 0 where
  pub inside : is_inside grid (step light.name.direction light.start position) ≡ true
  pub is : index_of grid (step light.name.direction light.start position) ≡ cell

-- the cell is that of a light at one of its first positions
pub record IsAmong (grid : Grid) (light : Light) (count cell : ℕ) : Type 0 where
  pub position : ℕ
  pub below : position < count
  pub along : IsAlong grid light position cell

-- the light was there before, and no light after the edit has its cells
pub record IsGone (before after : List Light) (other : ℕ) (light : Light) : Type 0 where
  pub at : slice_get before other ≡ Some light
  pub none : same_before after before other ≡ None

-- the cell is one of a removed light
pub record IsFreed (grid : Grid) (before after : List Light) (count cell : ℕ) : Type 0 where
  pub other : ℕ
  pub below : other < count
  pub light : Light
  pub gone : IsGone before after other light
  pub among : IsAmong grid light light.size cell

-- the light with this index before the edit was removed, and had the cell
pub record IsFreedAt (grid : Grid) (before after : List Light) (other cell : ℕ) : Type 0 where
  pub light : Light
  pub gone : IsGone before after other light
  pub among : IsAmong grid light light.size cell

-- an allowed letter is missing at the cell
abbrev pub IsLacking : Board → List ℕ → ℕ → Type 0
IsLacking board letters cell = ¬ HasAll board (set_has letters) cell

-- a light through a freed cell where an allowed letter is missing
abbrev pub IsThroughFreed : Board → (ℕ → Type 0) → List ℕ → ℕ → Type 0
IsThroughFreed board freed letters light = (cell : ℕ) × freed cell × IsLacking board letters cell × IsThrough board cell light

-- the freed cells have all letters that they allow, and the lights through a cell that got a letter
-- back are marked
pub record Raises (board : Board) (freed : ℕ → Type 0) (letters : List ℕ) (chain : ListOfLights) (letters' : List ℕ) (chain' : ListOfLights) : Type 0 where
  pub letters_len : length letters' ≡ length letters
  pub grows : Grows chain chain'
  pub seeds : HasSeeds chain'
  pub all : (cell : ℕ) → freed cell → HasAll board (set_has letters') cell
  pub stay : (cell letter : ℕ) → may_stand board cell letter ≡ true → set_has letters cell letter ≡ true → set_has letters' cell letter ≡ true
  pub spread : KeepsSpread board letters chain letters' chain'
  pub within : MarksOnly (IsThroughFreed board freed letters) chain chain'
