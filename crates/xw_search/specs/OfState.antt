-- The definitions about a position, under the same names, for the position of a state. A contract of code over any
-- engine speaks of the state of the engine, so it cites these.
use Rattle.std.specs.Prelude.{ℕ, Bool, List, Option}
use Rattle.xw_feas.specs.State.{State}
use Rattle.xw_search.specs.Position.{position_of}
use Rattle.xw_search.specs.FeasibleWords
use Rattle.xw_search.specs.FeasibleLetters
use Rattle.xw_search.specs.Lights
use Rattle.xw_search.specs.Listing
use Rattle.xw_search.specs.NamedFill
use Rattle.xw_search.specs.Linked
use Rattle.xw_search.specs.Progress
use Rattle.xw_search.specs.declared.plan.Plan.{Plan}

-- ---- feasible words and letters

abbrev pub feasible_words : State → ℕ → List (List ℕ)
feasible_words state = FeasibleWords.feasible_words (position_of state)

abbrev pub is_feasible_letter : State → ℕ → ℕ → Bool
is_feasible_letter state = FeasibleLetters.is_feasible_letter (position_of state)

abbrev pub feasible_letters : State → ℕ → List ℕ
feasible_letters state = FeasibleLetters.feasible_letters (position_of state)

-- ---- lights

abbrev pub light_count : State → ℕ
light_count state = Lights.light_count (position_of state)

abbrev pub is_entered : State → ℕ → Bool
is_entered state = Lights.is_entered (position_of state)

abbrev pub spelling : State → ℕ → List ℕ
spelling state = Lights.spelling (position_of state)

abbrev pub spell_same : State → ℕ → ℕ → Bool
spell_same state = Lights.spell_same (position_of state)

abbrev pub is_repeat : State → ℕ → Bool
is_repeat state = Lights.is_repeat (position_of state)

abbrev pub first_same : State → ℕ → Option ℕ
first_same state = Lights.first_same (position_of state)

-- ---- lists of lights

abbrev pub is_listed : State → List ℕ → Bool
is_listed state = Listing.is_listed (position_of state)

abbrev pub is_unlisted : State → ℕ → Bool
is_unlisted state = Listing.is_unlisted (position_of state)

abbrev pub grade_of : State → ℕ → Option ℕ
grade_of state = Listing.grade_of (position_of state)

-- ---- fills of the named lights

abbrev pub is_in_named : (ℕ → Bool) → State → ℕ → Bool
is_in_named named state = NamedFill.is_in_named named (position_of state)

abbrev pub IsFillOf : (ℕ → Bool) → State → List (Option ℕ) → Type 0
IsFillOf named state = NamedFill.IsFillOf named (position_of state)

-- ---- notes of wholly entered lights

abbrev pub is_spelled_again : State → ℕ → Bool
is_spelled_again state = Lights.is_spelled_again (position_of state)

-- ---- lights of one length

abbrev pub size_of : State → ℕ → ℕ
size_of state = Linked.size_of (position_of state)

abbrev pub last_of_size : State → ℕ → ℕ → Option ℕ
last_of_size state = Linked.last_of_size (position_of state)

abbrev pub AreLinked : State → ℕ → List (Option ℕ) → Type 0
AreLinked state = Linked.AreLinked (position_of state)

-- ---- the plan of a search by letters

abbrev pub is_target : (ℕ → Bool) → State → ℕ → Bool
is_target named state = Progress.is_target named (position_of state)

abbrev pub has_target : (ℕ → Bool) → State → ℕ → Bool
has_target named state = Progress.has_target named (position_of state)

abbrev pub AreTargets : (ℕ → Bool) → State → List ℕ → Type 0
AreTargets named state = Progress.AreTargets named (position_of state)

abbrev pub AreWatched : (ℕ → Bool) → State → List Bool → Type 0
AreWatched named state = Progress.AreWatched named (position_of state)

abbrev pub IsPlan : State → Plan → Type 0
IsPlan state = Progress.IsPlan (position_of state)

-- ---- what rules out a fill

abbrev pub IsDead : (ℕ → Bool) → State → ℕ → Type 0
IsDead watched state = Progress.IsDead watched (position_of state)

abbrev pub AreAlive : (ℕ → Bool) → State → Type 0
AreAlive watched state = Progress.AreAlive watched (position_of state)

abbrev pub repeats_with : State → Option ℕ → Bool
repeats_with state = Progress.repeats_with (position_of state)

abbrev pub IsRepeatedAt : State → Type 0
IsRepeatedAt state = Progress.IsRepeatedAt (position_of state)

abbrev pub IsApartAt : State → ℕ → Type 0
IsApartAt state = Progress.IsApartAt (position_of state)

-- ---- the letters of a cell, and the entries on the way

abbrev pub IsNextLetter : State → ℕ → ℕ → ℕ → Type 0
IsNextLetter state = Progress.IsNextLetter (position_of state)

abbrev pub IsOnlyLetter : State → ℕ → ℕ → Type 0
IsOnlyLetter state = Progress.IsOnlyLetter (position_of state)

abbrev pub HasNoLetter : State → ℕ → ℕ → Type 0
HasNoLetter state = Progress.HasNoLetter (position_of state)

abbrev pub HasNone : (ℕ → Bool) → State → List (Option ℕ) → Type 0
HasNone named state = Progress.HasNone named (position_of state)

abbrev pub IsOpen : (ℕ → Bool) → State → List (Option ℕ) → Type 0
IsOpen named state = Progress.IsOpen named (position_of state)
