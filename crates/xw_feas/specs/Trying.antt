-- What trying a letter or a word leads to.
use Rattle.std.specs.Prelude.{◌≡◌, ℕ, ◌<◌, Bool, true, false, List, [], ◌∷◌, ◌++◌, length, slice_index_or, Option, Some, None, Result, Ok, Err}
use Rattle.xw_words.specs.Dictionary.{known_words, entry_at}
use Rattle.xw_grid.specs.declared.cell.Cell.{Cell}
use Rattle.xw_grid.specs.Grid.{is_inside, index_of}
use Rattle.xw_grid.specs.Light.{lights_of}
use Rattle.xw_feas.specs.Board.{board_of, entry, light_at, is_wholly_entered}
use Rattle.xw_feas.specs.Feasible.{IsFeasibleWord, IsFeasibleLetter}
use Rattle.xw_feas.specs.State.{State, Action, after, light_of, known_count}

-- a letter may be tried: its cell is empty, and it is feasible there
pub record MayTryLetter (state : State) (cell : Cell) (letter : ℕ) : Type 0 where
  pub inside : is_inside state.grid cell ≡ true
  pub empty : entry (board_of state.grid) (index_of state.grid cell) ≡ None
  pub feasible : IsFeasibleLetter (board_of state.grid) state.words (index_of state.grid cell) letter

-- a known word may be tried in a light, both by index: the light is not wholly entered, and the word is feasible for it
pub record MayTryWord (state : State) (light index : ℕ) : Type 0 where
  pub within : light < length (lights_of state.grid)
  pub known : index < known_count state light
  pub not_entered : is_wholly_entered (board_of state.grid) (light_at (board_of state.grid) light) ≡ false
  pub feasible : IsFeasibleWord (board_of state.grid) state.words light (entry_at (known_words state.words (light_of state light).size) index).word

-- the light is dead: no word is feasible for it
pub record IsDeadLight (state : State) (light : ℕ) : Type 0 where
  pub within : light < length (lights_of state.grid)
  pub dead : (word : List ℕ) → ¬ IsFeasibleWord (board_of state.grid) state.words light word

-- the light is watched, and dead after the edit
pub record IsKilled (before : State) (action : Action) (watched : List Bool) (light : ℕ) : Type 0 where
  pub is_watched : slice_index_or watched light false ≡ true
  pub there : State
  pub made : after before action ≡ Ok there
  pub dead : IsDeadLight there light

-- the edit was applied, and each watched light that it leaves dead was dead before
pub record IsSurvived (before : State) (action : Action) (watched : List Bool) (now : State) : Type 0 where
  pub made : after before action ≡ Ok now
  pub alive : (light : ℕ) → slice_index_or watched light false ≡ true → IsDeadLight now light → IsDeadLight before light

-- the edit was applied; or it kills a watched light, and then nothing changed
abbrev pub IsTried : State → Action → List Bool → Option ℕ → State → Type 0
IsTried before action watched None now = IsSurvived before action watched now
IsTried before action watched (Some light) now = (now ≡ before) × IsKilled before action watched light

-- the states before the placements of a search, once another placement was tried
abbrev pub levels_after : {E : Type 0} → List State → State → Result (Option ℕ) E → List State
levels_after levels before (Ok None) = levels ++ before ∷ []
levels_after levels before (Ok (Some light)) = levels
levels_after levels before (Err failed) = levels
