-- What a search for the best fill has found so far.
use Rattle.std.specs.Prelude.{◌≡◌, ℕ, suc, ◌+◌, ◌-◌, ◌^◌, ◌<◌, ◌≤◌, min, nat_le, not, Bool, true, cond, List, length, Option, Some, None, IfSome, unwrap_or, ◌⊎◌}
use Rattle.xw_words.specs.Dictionary.{best_grade, with_least}
use Rattle.xw_feas.specs.Count.{number}
use Rattle.xw_feas.specs.State.{State}
use Rattle.xw_feas.specs.Snapshot.{IsTwin}
use Rattle.xw_search.specs.Position.{Position, position_of}
use Rattle.xw_search.specs.Below.{sum_below}
use Rattle.xw_search.specs.Lights.{light_count, is_entered, spelling}
use Rattle.xw_search.specs.Listing.{grade_of, IsActive}
use Rattle.xw_search.specs.NamedFill.{flags}
use Rattle.xw_best.specs.Best.{at_least, HasNoneAt, IsBound, IsFilledAt}
use Rattle.xw_search.specs.Progress.{IsDead, AreAlive, IsPlan}
use Rattle.xw_search.specs.declared.allowance.Allowance.{Allowance}
use Rattle.xw_best.specs.declared.best.Best.{Best}
use Rattle.xw_best.specs.declared.best.Best.TheVariants as bests
use Rattle.xw_best.specs.declared.best.climb.Climb.{Climb}
use Rattle.xw_best.specs.declared.best.pace.Pace.{Pace}
use Rattle.xw_best.specs.declared.best.probe.Prober.{Prober}
use Rattle.xw_best.specs.declared.best.probe.Probe.{Probe}
use Rattle.xw_best.specs.declared.best.probe.Probe.TheVariants.{Filled, NoFill, Limit}

-- the states differ at most in the least grade
abbrev pub DiffersInLeast : State → State → Type 0
DiffersInLeast before after = (grade : ℕ) → at_least after grade ≡ at_least before grade

-- with the words of this grade and better, a watched light has no feasible word
abbrev pub IsDeadAt : (ℕ → Bool) → State → ℕ → Type 0
IsDeadAt watched state grade = (light : ℕ) × IsDead watched (position_of (at_least state grade)) light

-- with the words of this grade and better, each watched light has a feasible word
abbrev pub AreAliveAt : (ℕ → Bool) → State → ℕ → Type 0
AreAliveAt watched state grade = AreAlive watched (position_of (at_least state grade))

-- the word is one of this grade or better, and not struck
abbrev pub IsActiveAt : State → ℕ → List ℕ → Type 0
IsActiveAt state grade word = IsActive (with_least grade state.words) word

-- each flagged light that is wholly entered spells a word of this grade or better
abbrev pub AreActiveAt : (ℕ → Bool) → State → ℕ → Type 0
AreActiveAt flagged state grade = (light : ℕ) → light < light_count (position_of state) → flagged light ≡ true → is_entered (position_of state) light ≡ true → IsActiveAt state grade (spelling (position_of state) light)

-- the grade of the word that a flagged light spells; 0 if the light has no flag, and if the word is not known
abbrev pub new_grade : (ℕ → Bool) → State → ℕ → ℕ
new_grade flagged state light = cond (flagged light) (unwrap_or (grade_of (position_of state) light) 0) 0

-- the sum of the grades of the words that the flagged lights spell
abbrev pub grade_sum : (ℕ → Bool) → State → ℕ
grade_sum flagged state = sum_below (new_grade flagged state) (light_count (position_of state))

-- there is a flag for each light: whether it is not wholly entered
pub record AreFresh (start : Position) (fresh : List Bool) : Type 0 where
  pub long : length fresh ≡ light_count start
  pub are : (light : ℕ) → light < light_count start → flags fresh light ≡ not (is_entered start light)

-- the prober is for this state
pub record IsProber (prober : Prober) (start : State) : Type 0 where
  pub plan : IsPlan (position_of start) prober.plan
  pub fresh : AreFresh (position_of start) prober.fresh.items
  pub least : prober.least ≡ start.words.least

-- what a search for a fill with the words of a grade and better found: a fill that is one at `least`; that there is none; or
-- nothing
abbrev pub IsProbed : (ℕ → Bool) → State → ℕ → State → Probe → Type 0
IsProbed named before grade after (Filled least) = (grade ≤ least) × IsFilledAt named before after least
IsProbed named before grade after NoFill = HasNoneAt named before grade
IsProbed named before grade after Limit = Unit {0}

-- a fill that was found is one at this grade or above
abbrev pub IsAtLeast : ℕ → Probe → Type 0
IsAtLeast grade (Filled least) = (grade ≤ least) × (least ≤ best_grade)
IsAtLeast grade other = Unit {0}

-- A fill with this worst grade and this sum of grades is better than the one that was found, if there is one: its worst
-- word is better, or it has the same grade and the sum is greater.
abbrev pub IsBetter : Option ℕ → ℕ → ℕ → ℕ → Type 0
IsBetter None was worst sum = Unit {0}
IsBetter (Some found) was worst sum = (found < worst) ⊎ ((found ≡ worst) × (was < sum))

-- the search began at this state, and knows a bound and the best fill that was found, with the sum of its new grades
pub record IsClimbing {E S : Type 0} (saved : S → State) (climb : Climb E S) (start : State) : Type 0 where
  pub prober : IsProber climb.prober start
  pub began : saved climb.start ≡ start
  pub best : IsTwin (saved climb.best) start
  pub found : IfSome climb.found (IsFilledAt (flags climb.prober.plan.named.items) start (saved climb.best))
  pub sum : IfSome climb.found (λ grade. climb.sum ≡ grade_sum (flags climb.prober.fresh.items) (saved climb.best))
  pub bound : IsBound (flags climb.prober.plan.named.items) start climb.bound

-- the least grade at which a fill would be new, after one of this grade was found, or none
abbrev pub grade_above : Option ℕ → ℕ → ℕ
grade_above None least = least
grade_above (Some grade) least = suc grade

abbrev pub next_grade : {E S : Type 0} → Climb E S → ℕ
next_grade climb = grade_above climb.found climb.prober.least

-- if a fill was found, it has the entries of the start
abbrev pub IsIdle : {E S : Type 0} → (S → State) → Climb E S → Type 0
IsIdle saved climb = IfSome climb.found (λ grade. saved climb.best ≡ saved climb.start)

-- what a search holds after a fill was offered: this fill if it is better than the one before, and otherwise that one
abbrev pub IsOffered : {E S : Type 0} → (S → State) → Climb E S → Climb E S → State → ℕ → ℕ → Type 0
IsOffered saved before now filled worst sum =
    (IsBetter before.found before.sum worst sum × (now.found ≡ Some worst) × (now.sum ≡ sum) × (saved now.best ≡ filled))
    ⊎ ((IsBetter before.found before.sum worst sum → ⊥) × (now.found ≡ before.found) × (now.sum ≡ before.sum) × (saved now.best ≡ saved before.best))

-- if the last try of known entries found a fill, it was offered
abbrev pub HasOffered : {E S : Type 0} → (S → State) → Climb E S → Climb E S → Type 0
HasOffered saved before now = (worst : ℕ) → now.prober.last.value ≡ Filled worst →
    (filled : State) × IsFilledAt (flags before.prober.plan.named.items) (saved before.start) filled worst × IsOffered saved before now filled worst (grade_sum (flags before.prober.fresh.items) filled)

-- What every step of a search for the best fill keeps, whichever grades and parts it tries: the fill that it holds gets
-- better or stays, by its worst grade and then by the sum of its grades, and its bound gets lower or stays. It takes no
-- placement back, keeps their limit, and has counted all of them as its own. A fill that it found without a placement
-- has the entries of the start.
pub record HasClimbed {E S : Type 0} (saved : S → State) (before now : Climb E S) (from to : Allowance) : Type 0 where
  pub plan : now.prober.plan ≡ before.prober.plan
  pub least : now.prober.least ≡ before.prober.least
  pub found : next_grade before ≤ next_grade now
  pub sum : next_grade now ≡ next_grade before → before.sum ≤ now.sum
  pub bound : now.bound ≤ before.bound
  pub made : from.made ≤ to.made
  pub limit : to.limit ≡ from.limit
  pub counted : now.counted.value.made ≡ to.made
  pub idle : to.made ≡ from.made → IsIdle saved before → IsIdle saved now

-- What a search keeps of a probe: a fill, which is better than the one before; or a bound; or nothing, and then the
-- probe made all placements that it might make.
abbrev pub IsTaken : {E S : Type 0} → ℕ → Climb E S → Climb E S → Allowance → Probe → Type 0
IsTaken grade before now to (Filled least) = (now.found ≡ Some least) × (now.bound ≡ before.bound)
IsTaken grade before now to NoFill = (now.found ≡ before.found) × (now.bound ≡ grade)
IsTaken grade before now to Limit = (now.found ≡ before.found) × (now.bound ≡ before.bound) × (to.made ≡ to.until)

-- the schedule has counted so many placements more for parts around a worst word, or as many as it can count
abbrev pub HasScheduled : Pace → Pace → ℕ → Type 0
HasScheduled before now made = min (before.parts + made) (2 ^ 64 - 1) ≤ now.parts

-- how many of its placements a search has used: the words and letters that the engine has placed, and the known fills
-- that were tried, each of which is one
abbrev pub spent_by : {E S : Type 0} → ℕ → Climb E S → ℕ
spent_by placed climb = placed + number climb.prober.tries

-- how much a search may still do: the grades that it has not decided, and the placements that are left
abbrev pub work_left : {E S : Type 0} → Climb E S → Allowance → ℕ
work_left climb allowance = (climb.bound - next_grade climb) + (allowance.limit - allowance.made)

-- the answer of a search that found a fill of this grade, or none
abbrev pub best_of : Option ℕ → ℕ → ℕ → Best
best_of (Some grade) least bound = bests.Filled grade bound
best_of None least bound = cond (nat_le bound least) bests.NoFill (bests.Limit bound)
