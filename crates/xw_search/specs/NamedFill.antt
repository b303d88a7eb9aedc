-- The definition of a fill of some lights, which are called the named lights.
use Rattle.std.specs.Prelude.{◌≡◌, ◌⊎◌, ℕ, ◌<◌, ◌≢◌, Bool, true, false, ◌&&◌, ◌||◌, ◌==◌, List, [], ◌∷◌, All, length, slice_index, slice_index_or, Option, Some, None, is_some}
use Rattle.std.specs.List.{list_any}
use Rattle.xw_grid.specs.declared.cell.LightName.{LightName}
use Rattle.xw_grid.specs.declared.fault.GridFault.TheVariants.{Memory}
use Rattle.xw_grid.specs.Light.{lights_of, index_named}
use Rattle.xw_feas.specs.declared.edit.Refusal.{Refusal}
use Rattle.xw_feas.specs.declared.edit.Refusal.TheVariants.{Grid, NoLight}
use Rattle.xw_feas.specs.Board.{light_at}
use Rattle.xw_feas.specs.State.{State}
use Rattle.xw_feas.specs.WellFormed.{HasLetterEntries}
use Rattle.xw_search.specs.Position.{Position, position_of, with_entries, holding, filled_in}
use Rattle.xw_search.specs.Below.{any_below}
use Rattle.xw_search.specs.Lights.{light_count, is_entered, spelling, lacks_words}
use Rattle.xw_search.specs.Listing.{IsActive}
use Rattle.xw_search.specs.declared.filling.Filling.{Filling}
use Rattle.xw_search.specs.declared.filling.Filling.TheVariants.{Filled, NoFill, Limit}

-- the flag of each light; none beyond the end of the list
abbrev pub flags : List Bool → ℕ → Bool
flags list light = slice_index_or list light false

-- the light passes through the cell
abbrev pub passes : Position → ℕ → ℕ → Bool
passes position light cell = list_any (λ other. cell == other) (light_at position.board light)

-- the cell is in a named light
abbrev pub is_in_named : (ℕ → Bool) → Position → ℕ → Bool
is_in_named named position cell = any_below (λ light. named light && passes position light cell) (light_count position)

-- the entry of a cell
abbrev pub entry_in : List (Option ℕ) → ℕ → Option ℕ
entry_in entries cell = slice_index_or entries cell None

-- every entry of one list is in the other
abbrev pub Keeps : List (Option ℕ) → List (Option ℕ) → Type 0
Keeps before now = (cell letter : ℕ) → entry_in before cell ≡ Some letter → entry_in now cell ≡ Some letter

-- in some cell of the light the entry differs from that of the position
abbrev pub IsChanged : Position → List (Option ℕ) → ℕ → Type 0
IsChanged position entries light = (k : ℕ) × (k < length (light_at position.board light)) × (entry_in entries (slice_index (light_at position.board light) k) ≢ entry_in position.board.entries (slice_index (light_at position.board light) k))

-- Each named light is wholly entered. Only cells of named lights have new entries, and these are letters. Each light
-- that became wholly entered spells an active word, and no two wholly entered lights spell the same. Each light that
-- is named or changed has a feasible word: a wholly entered one the word it spells.
pub record IsFillOf (named : ℕ → Bool) (position : Position) (entries : List (Option ℕ)) : Type 0 where
  pub letters : HasLetterEntries (with_entries position.board entries)
  pub kept : Keeps position.board.entries entries
  pub elsewhere : (cell : ℕ) → is_in_named named position cell ≡ false → entry_in entries cell ≡ entry_in position.board.entries cell
  pub entered : (light : ℕ) → light < light_count position → named light ≡ true → is_entered (holding position entries) light ≡ true
  pub words : (light : ℕ) → light < light_count position → is_entered position light ≡ false → is_entered (holding position entries) light ≡ true → IsActive position.words (spelling (holding position entries) light)
  pub distinct : (light other : ℕ) → light < other → other < light_count position → is_entered (holding position entries) light ≡ true → is_entered (holding position entries) other ≡ true → spelling (holding position entries) light ≢ spelling (holding position entries) other
  pub alive : (light : ℕ) → light < light_count position → (named light ≡ true) ⊎ IsChanged position entries light → lacks_words (holding position entries) light ≡ false

-- There is an entry for each cell, and the cells in no light have the entries of the position.
pub record IsInLights (position : Position) (entries : List (Option ℕ)) : Type 0 where
  pub long : length entries ≡ length position.board.entries
  pub elsewhere : (cell : ℕ) → is_in_named (λ light. true) position cell ≡ false → entry_in entries cell ≡ entry_in position.board.entries cell

-- What each answer means: after Filled the state holds a fill of the named lights, NoFill means that there is none,
-- and NoFill and Limit leave the state as it was.
abbrev pub IsAutofilled : (ℕ → Bool) → State → State → Filling → Type 0
IsAutofilled named before after Filled = (entries : List (Option ℕ)) × IsFillOf named (position_of before) entries × (after ≡ filled_in before entries)
IsAutofilled named before after NoFill = ((entries : List (Option ℕ)) → IsFillOf named (position_of before) entries → ⊥) × (after ≡ before)
IsAutofilled named before after Limit = after ≡ before

-- ---- the named lights of a call

-- the light was found
abbrev pub is_light : ℕ → Option ℕ → Bool
is_light light None = false
is_light light (Some found) = found == light

-- a light is named if its name is in the list; an empty list names all lights
abbrev pub is_named : State → List LightName → ℕ → Bool
is_named state [] light = true
is_named state (name ∷ names) light = list_any (λ other. is_light light (index_named (lights_of state.grid) other)) (name ∷ names)

-- every name belongs to a light
abbrev pub AreLights : State → List LightName → Type 0
AreLights state names = All (λ name. is_some (index_named (lights_of state.grid) name) ≡ true) names

-- the flags of the lights whose names are in a list, besides those set before
abbrev pub AreFlagged : State → List LightName → List Bool → List Bool → Type 0
AreFlagged state names before now = (light : ℕ) → light < length (lights_of state.grid) → flags now light ≡ (flags before light || list_any (λ name. is_light light (index_named (lights_of state.grid) name)) names)

-- there is a flag for each light: whether it is named
abbrev pub AreFlags : State → List LightName → List Bool → Type 0
AreFlags state names list = (light : ℕ) → light < length (lights_of state.grid) → flags list light ≡ is_named state names light

-- some name belongs to no light
abbrev pub IsNoLight : State → List LightName → Refusal → Type 0
IsNoLight state names refusal = (refusal ≡ NoLight) × (AreLights state names → ⊥)

-- why a call is refused: some name belongs to no light, or an allocation failed
abbrev pub IsRefusal : State → List LightName → Refusal → Type 0
IsRefusal state names refusal = IsNoLight state names refusal ⊎ (refusal ≡ Grid Memory)
