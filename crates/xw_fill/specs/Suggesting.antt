-- What `suggest` returns at a position.
use Rattle.std.specs.Prelude.{◌≡◌, ℕ, ◌<◌, length, slice_index_or, [], Bool, true, false, ◌&&◌, List, Option, Some, None, is_none, position}
use Rattle.xw_grid.specs.declared.cell.LightName.{LightName}
use Rattle.xw_feas.specs.State.{State}
use Rattle.xw_search.specs.Position.{Position, position_of, placed, name_at}
use Rattle.xw_search.specs.Below.{first_below}
use Rattle.xw_search.specs.FeasibleWords.{is_feasible_word}
use Rattle.xw_search.specs.Lights.{light_count, is_entered, lacks_words}
use Rattle.xw_fill.specs.Search.{chosen}
use Rattle.xw_fill.specs.Words.{spellings_at}
use Rattle.xw_fill.specs.declared.suggesting.Suggestion.{Suggestion}
use Rattle.xw_fill.specs.declared.suggesting.Suggestion.TheVariants.{Dead, Done, Try, NoWord}

-- the first light without a feasible word
abbrev pub first_blocked : Position → Option ℕ
first_blocked state = first_below (lacks_words state) (light_count state)

-- every light has a feasible word once the word is placed
abbrev pub leaves_words : Position → ℕ → List ℕ → Bool
leaves_words state light word = is_none (first_blocked (placed state light word))

-- the word is feasible, and every light still has a feasible word once it is placed
abbrev pub can_be_tried : Position → ℕ → List ℕ → Bool
can_be_tried state light word = is_feasible_word state light word && leaves_words state light word

-- the index of the first word that can be tried
abbrev pub index_to_try : Position → ℕ → Option ℕ
index_to_try state light = position (can_be_tried state light) (spellings_at state light)

abbrev pub suggestion_with : LightName → Option ℕ → Suggestion
suggestion_with name None = NoWord name
suggestion_with name (Some index) = Try name index

abbrev pub suggestion_at : State → Option ℕ → Suggestion
suggestion_at state None = Done
suggestion_at state (Some light) = suggestion_with (name_at state light) (index_to_try (position_of state) light)

abbrev pub suggestion_unless : State → Option ℕ → Suggestion
suggestion_unless state None = suggestion_at state (chosen (position_of state))
suggestion_unless state (Some light) = Dead (name_at state light)

-- The first case that applies: Dead if some light has no feasible word, Done if no light is left to choose, Try with
-- the first word that can be tried, and otherwise NoWord.
abbrev pub suggestion : State → Suggestion
suggestion state = suggestion_unless state (first_blocked (position_of state))

-- a feasible word, given by its index, of a light that is not wholly entered
pub record IsTriedAt (state : Position) (light index : ℕ) : Type 0 where
  pub light_in : light < light_count state
  pub not_entered : is_entered state light ≡ false
  pub index_in : index < length (spellings_at state light)
  pub feasible : is_feasible_word state light (slice_index_or (spellings_at state light) index []) ≡ true
