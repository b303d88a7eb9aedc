-- What ties the answer of a search for the best fill to one search.
use Rattle.std.specs.Prelude.{◌≡◌, ℕ, ◌<◌, Bool, None, IfSome}
use Rattle.xw_feas.specs.State.{State}
use Rattle.xw_search.specs.Position.{position_of}
use Rattle.xw_search.specs.Lights.{light_count}
use Rattle.xw_search.specs.NamedFill.{flags}
use Rattle.xw_best.specs.Inner.Climbing.{IsClimbing, HasClimbed, best_of}
use Rattle.xw_search.specs.declared.allowance.Allowance.{Allowance}
use Rattle.xw_best.specs.declared.best.Best.{Best}
use Rattle.xw_best.specs.declared.best.Best.TheVariants.{Limit}
use Rattle.xw_best.specs.declared.best.climb.Climb.{Climb}

-- The answer is that of one search for a fill of the named lights. The search began here, without a fill, before any of
-- the placements was counted, and all that were counted are its own. The fill that it held at the end stands in the grid.
pub record IsOfOneSearch {E S : Type 0} (state : E → State) (saved : S → State) (named : ℕ → Bool) (before after : E) (from to : Allowance) (best : Best) : Type 0 where
  pub first : Climb E S
  pub last : Climb E S
  pub began : IsClimbing saved first (state before)
  pub lights : (light : ℕ) → light < light_count (position_of (state before)) → flags first.prober.plan.named.items light ≡ named light
  pub empty : first.found ≡ None
  pub own : first.counted.value.made ≡ from.made
  pub climbed : HasClimbed saved first last from to
  pub ended : IsClimbing saved last (state before)
  pub answer : best ≡ best_of last.found last.prober.least last.bound
  pub entered : IfSome last.found (λ grade. state after ≡ saved last.best)

-- The answer is that of one search with so many placements. It counted no more of them, and all before it answered Limit.
pub record IsBestWithin {E S : Type 0} (state : E → State) (saved : S → State) (named : ℕ → Bool) (before after : E) (limit : ℕ) (best : Best) : Type 0 where
  pub from : Allowance
  pub to : Allowance
  pub unused : from.made ≡ 0
  pub all : from.limit ≡ limit
  pub one : IsOfOneSearch state saved named before after from to best
  pub spent : (bound : ℕ) → best ≡ Limit bound → to.made ≡ limit
