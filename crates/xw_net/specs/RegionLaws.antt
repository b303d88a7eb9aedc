-- The region of an edit is the least closed set of lights.
use Rattle.std.specs.Prelude.{ℕ, ◌≤◌, Bool, List, IsTrue, ◌↔◌}
use Rattle.xw_feas.specs.State.{State, Action}
use Rattle.xw_net.specs.Region.{IsRegion, IsWithinCost, cost}

-- the set is closed, and each closed set contains it
pub record IsLeastRegion (before after : State) (action : Action) (member : List ℕ → Bool) : Type 0 where
  pub closed : IsRegion before after action member
  pub least : (other : List ℕ → Bool) → IsRegion before after action other → (light : List ℕ) → IsTrue (member light) → IsTrue (other light)

-- each edit has a least closed set
abbrev pub LeastRegionExists : Type 0
LeastRegionExists = (before after : State) (action : Action) → (member : List ℕ → Bool) × IsLeastRegion before after action member

-- ticks are within the cost of every closed set if they are within the cost of the least one, and only then
abbrev pub LeastRegionBounds : Type 0
LeastRegionBounds =
    (before after : State) (action : Action) (member : List ℕ → Bool) → IsLeastRegion before after action member
    → (ticks : ℕ) → IsWithinCost before after action ticks ↔ (ticks ≤ cost after member)
