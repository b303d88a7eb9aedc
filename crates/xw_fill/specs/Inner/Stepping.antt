-- One step of the search for a fill: what trying a word led to.
use Rattle.std.specs.Prelude.{◌≡◌, ℕ, suc, true, List, [], ◌∷◌, ◌++◌, length, Option, Some, None}
use Rattle.xw_feas.specs.State.{State}
use Rattle.xw_fill.specs.OfState.{is_dead, outlook}
use Rattle.xw_fill.specs.Inner.OfState.{AreEntered}
use Rattle.xw_fill.specs.Inner.EnteredSince.{noted}
use Rattle.xw_fill.specs.Inner.Tries.{IsMade}
use Rattle.xw_fill.specs.declared.search.Next.{Next}
use Rattle.xw_fill.specs.declared.tries.Try.{Try}

-- the word was placed, the notes tell which lights are wholly entered then, and this is the next step
pub record HasPlaced (tried : Try) (before : State) (tries : List Try) (after : State) (tries_after : List Try) (since : List (Option ℕ)) (next : Next) : Type 0 where
  pub made : IsMade tried before after
  pub pushed : tries_after ≡ tries ++ tried ∷ []
  pub entered : AreEntered after (noted since (suc (suc (length tries))))
  pub step : next ≡ outlook after

-- the position is dead where the word leads, and nothing changed
pub record HasDied (tried : Try) (before : State) (tries : List Try) (after : State) (tries_after : List Try) (since since_after : List (Option ℕ)) : Type 0 where
  pub same : after ≡ before
  pub kept : tries_after ≡ tries
  pub notes : since_after ≡ since
  pub there : State
  pub made : IsMade tried before there
  pub dead : is_dead there ≡ true

-- after a try: the next step if the word was placed, and none if it led to a dead position
abbrev pub HasStepped : Try → State → List Try → List (Option ℕ) → State → List Try → List (Option ℕ) → Option Next → Type 0
HasStepped tried before tries since after tries_after since_after None = HasDied tried before tries after tries_after since since_after
HasStepped tried before tries since after tries_after since_after (Some next) = HasPlaced tried before tries after tries_after since_after next
