-- The stack of a search: its placements in order, and the states that they lead through, which are the levels of the engine.
use Rattle.std.specs.Prelude.{◌≡◌, ℕ, Bool, true, false, List, [], ◌∷◌, ◌++◌, Option, Some, None}
use Rattle.xw_feas.specs.State.{State}
use Rattle.xw_search.specs.Position.{position_of}
use Rattle.xw_search.specs.Progress.{IsDead, AreAlive}

-- the first state of a list, or the given one if the list is empty: with the levels and the state of an engine, the state where
-- its search began
abbrev pub first_or : List State → State → State
first_or [] now = now
first_or (state ∷ states) now = state

-- each placement leads from the state at its index to the next one, and the last placement leads to `now`
abbrev pub LeadThrough : {M : Type 0} → (M → State → State → Type 0) → List M → List State → State → Type 0
LeadThrough is_placed [] [] now = Unit {0}
LeadThrough is_placed [] (state ∷ states) now = ⊥
LeadThrough is_placed (placement ∷ placements) [] now = ⊥
LeadThrough is_placed (placement ∷ placements) (state ∷ states) now = is_placed placement state (first_or states now) × LeadThrough is_placed placements states now

abbrev pub AreForced : {M : Type 0} → (M → Bool) → List M → Type 0
AreForced is_forced [] = Unit {0}
AreForced is_forced (placement ∷ placements) = (is_forced placement ≡ true) × AreForced is_forced placements

-- a placement that was not forced was taken back, with the forced ones after it
pub record IsTakenBack {M : Type 0} (is_placed : M → State → State → Type 0) (is_forced : M → Bool) (placement : M) (left : List M) (before : State) (placements : List M) (now : State) : Type 0 where
  pub after : List M
  pub states : List State
  pub placements_are : placements ≡ left ++ placement ∷ after
  pub choice : is_forced placement ≡ false
  pub forced : AreForced is_forced after
  pub through : LeadThrough is_placed (placement ∷ after) (before ∷ states) now

-- if each watched light has a feasible word before, each has one after
abbrev pub StayAlive : (ℕ → Bool) → State → State → Type 0
StayAlive watched before after = AreAlive watched (position_of before) → AreAlive watched (position_of after)

-- what trying a placement led to: it was placed, and no watched light died; or a watched light is dead where it leads, and
-- nothing changed
abbrev pub HasLed : (State → Type 0) → (ℕ → Bool) → State → State → Option ℕ → Type 0
HasLed leads watched before after None = leads after × StayAlive watched before after
HasLed leads watched before after (Some light) = (after ≡ before) × ((there : State) × leads there × IsDead watched (position_of there) light)

-- the same with the placements of a stack
abbrev pub HasTried : {M : Type 0} → (M → State → State → Type 0) → (ℕ → Bool) → M → State → List M → State → List M → Option ℕ → Type 0
HasTried is_placed watched placement before placements after placements_after None =
    (placements_after ≡ placements ++ placement ∷ []) × is_placed placement before after × StayAlive watched before after
HasTried is_placed watched placement before placements after placements_after (Some light) =
    (placements_after ≡ placements) × (after ≡ before) × ((there : State) × is_placed placement before there × IsDead watched (position_of there) light)
