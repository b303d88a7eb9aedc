-- The least number of words that a light has left once a word is placed.
use Rattle.std.specs.Prelude.{ℕ, ◌<◌, List, length, slice_index, Option, None, Result, Ok, Err, option_map}
use Rattle.xw_feas.specs.Board.{Board, light_at, IsCrossing}
use Rattle.xw_feas.specs.declared.edit.Refusal.{Refusal}
use Rattle.xw_feas.specs.State.{State, after, word_placed}
use Rattle.xw_search.specs.Position.{Position, position_of, name_at}
use Rattle.xw_search.specs.FeasibleWords.{feasible_words}
use Rattle.xw_fill.specs.Search.{chosen}

-- the least number of feasible words of a light that is not wholly entered, which the chosen light has; None if all
-- lights are wholly entered
abbrev pub fewest_words : Position → Option ℕ
fewest_words position = option_map (λ light. length (feasible_words position light)) (chosen position)

-- that number after an edit; None also if the edit is refused
abbrev pub fewest_in : Result State Refusal → Option ℕ
fewest_in (Ok state) = fewest_words (position_of state)
fewest_in (Err refusal) = None

-- that number after the word is placed in the light at an index
abbrev pub fewest_after : State → ℕ → List ℕ → Option ℕ
fewest_after state light word = fewest_in (after state (word_placed (name_at state light) word))

-- no other light passes through a cell of the light
abbrev pub CrossesNone : Board → ℕ → Type 0
CrossesNone board light = (position other : ℕ) → position < length (light_at board light) → IsCrossing board light (slice_index (light_at board light) position) other → ⊥
