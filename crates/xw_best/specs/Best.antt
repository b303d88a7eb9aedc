-- The best fill of the named lights: one whose worst new word has the best grade.
use Rattle.std.specs.Prelude.{◌≡◌, ℕ, suc, ◌<◌, ◌≤◌, Bool, List, Option}
use Rattle.xw_words.specs.Dictionary.{best_grade, with_least}
use Rattle.xw_feas.specs.State.{State}
use Rattle.xw_search.specs.Position.{filled_in}
use Rattle.xw_search.specs.OfState.{IsFillOf}
use Rattle.xw_best.specs.declared.best.Best.{Best}
use Rattle.xw_best.specs.declared.best.Best.TheVariants.{Filled, NoFill, Limit}

-- the state with another least grade of an active word
abbrev pub at_least : State → ℕ → State
at_least state grade = record state { words = with_least grade state.words }

-- the entries are a fill of the named lights with the words of this grade and better
abbrev pub IsFillAt : (ℕ → Bool) → State → ℕ → List (Option ℕ) → Type 0
IsFillAt named state grade entries = IsFillOf named (at_least state grade) entries

-- the named lights have no fill with the words of this grade and better
abbrev pub HasNoneAt : (ℕ → Bool) → State → ℕ → Type 0
HasNoneAt named state grade = (entries : List (Option ℕ)) → IsFillAt named state grade entries → ⊥

-- The named lights have no fill with the words of this grade and better, and so, by `NoneReachesUp`, none at a greater
-- grade. One more than the greatest grade says nothing.
pub record IsBound (named : ℕ → Bool) (state : State) (bound : ℕ) : Type 0 where
  pub within : bound ≤ suc best_grade
  pub none : bound ≤ best_grade → HasNoneAt named state bound

-- The state after holds a fill of the state before, with the words of grade `least` and better; `least` is the
-- greatest grade of which that is true. Only entries changed.
pub record IsFilledAt (named : ℕ → Bool) (before after : State) (least : ℕ) : Type 0 where
  pub entries : List (Option ℕ)
  pub fill : IsFillAt named before least entries
  pub left : before.words.least ≤ least
  pub graded : least ≤ best_grade
  pub greatest : (grade : ℕ) → least < grade → grade ≤ best_grade → IsFillAt named before grade entries → ⊥
  pub holds : after ≡ filled_in before entries

-- What each answer means. After Filled the state holds a fill at `least`. NoFill means that there is no fill, and
-- after it and Limit the state is as it was. No fill is known to be at `bound` or above.
abbrev pub IsBest : (ℕ → Bool) → State → State → Best → Type 0
IsBest named before after (Filled least bound) = IsFilledAt named before after least × IsBound named before bound
IsBest named before after NoFill = ((entries : List (Option ℕ)) → IsFillOf named before entries → ⊥) × (after ≡ before)
IsBest named before after (Limit bound) = (before.words.least < bound) × IsBound named before bound × (after ≡ before)

-- ---- laws

-- a fill with the words of a grade and better is one with those of each lower grade
abbrev pub FillsReachDown : Type 0
FillsReachDown = (named : ℕ → Bool) (state : State) (grade lower : ℕ) (entries : List (Option ℕ)) → lower ≤ grade → IsFillAt named state grade entries → IsFillAt named state lower entries

-- if there is no fill at a grade, there is none at a greater one
abbrev pub NoneReachesUp : Type 0
NoneReachesUp = (named : ℕ → Bool) (state : State) (grade higher : ℕ) → grade ≤ higher → HasNoneAt named state grade → HasNoneAt named state higher
