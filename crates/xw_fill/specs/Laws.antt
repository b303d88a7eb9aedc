-- Laws of the search definitions: they hold without a bound on placements, and they relate the search to fills.
use Rattle.std.specs.Prelude.{◌≡◌, ℕ, ◌<◌, ◌≤◌, true, false, cond, ◌&&◌, not, length, List, Contains, Option, Some, None}
use Rattle.xw_feas.specs.Board.{light_at, spelled}
use Rattle.xw_feas.specs.State.{State}
use Rattle.xw_feas.specs.WellFormed.{IsLaidOut}
use Rattle.xw_search.specs.Position.{Position, position_of, with_entries, holding}
use Rattle.xw_fill.specs.Fill.{IsFill}
use Rattle.xw_fill.specs.Filling.{IsFilling}
use Rattle.xw_search.specs.declared.filling.Filling.{Filling}
use Rattle.xw_search.specs.FeasibleWords.{feasible_words}
use Rattle.xw_search.specs.Lights.{light_count, is_entered}
use Rattle.xw_fill.specs.Search.{is_dead, chosen, found_by, due_by, end_by, found, due, end}

-- What `found`, `due` and `end` of `Search.antt` mean, without a bound on placements: those of a position follow from
-- those of the positions after one placement. A dead position has no fill and no placements.
pub record IsSearched (position : Position) : Type 0 where
  pub found_is : found position ≡ (not (is_dead position) && found_by found position (chosen position))
  pub due_is : due position ≡ cond (is_dead position) 0 (due_by found due position (chosen position))
  pub end_is : end position ≡ end_by found end position (chosen position)

-- of the lights that are not wholly entered, the first with the fewest feasible words
pub record IsChosen (position : Position) (light : ℕ) : Type 0 where
  pub in_grid : light < light_count position
  pub not_entered : is_entered position light ≡ false
  pub fewest : (other : ℕ) → other < light_count position → is_entered position other ≡ false → length (feasible_words position light) ≤ length (feasible_words position other)
  pub first : (other : ℕ) → other < light → is_entered position other ≡ false → length (feasible_words position light) < length (feasible_words position other)

-- the choice is right: a light that IsChosen, or None if all lights are wholly entered
abbrev pub IsChoice : Position → Option ℕ → Type 0
IsChoice position None = (light : ℕ) → light < light_count position → is_entered position light ≡ true
IsChoice position (Some light) = IsChosen position light

-- In every fill each light spells one of its feasible words, so a search that tries only these misses no fill.
abbrev pub FillsAreFeasible : Type 0
FillsAreFeasible = (position : Position) (entries : List (Option ℕ)) → IsLaidOut position.board → IsFill position entries → (light : ℕ) → light < light_count position → Contains (feasible_words position light) (spelled (with_entries position.board entries) (light_at position.board light))

-- if the search finds something, its end is the position with a fill in it
abbrev pub FoundIsFill : Type 0
FoundIsFill = (position : Position) → IsLaidOut position.board → found position ≡ true → (entries : List (Option ℕ)) × IsFill position entries × (end position ≡ holding position entries)

-- if a fill exists, the search finds one
abbrev pub FillIsFound : Type 0
FillIsFound = (position : Position) (entries : List (Option ℕ)) → IsLaidOut position.board → IsFill position entries → found position ≡ true

-- the answer depends only on the position and the limit
abbrev pub AnswerIsOne : Type 0
AnswerIsOne = (limit : ℕ) (before other now other_now : State) (filling other_filling : Filling) → position_of before ≡ position_of other → IsFilling limit before now filling → IsFilling limit other other_now other_filling → filling ≡ other_filling

-- the state, the limit and the answer determine the state afterwards
abbrev pub EndIsOne : Type 0
EndIsOne = (limit : ℕ) (before now other_now : State) (filling : Filling) → IsFilling limit before now filling → IsFilling limit before other_now filling → now ≡ other_now
