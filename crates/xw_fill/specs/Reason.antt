-- The definition of a reason why a light has no feasible word: a minimal set of entries that leaves it none.
use Rattle.std.specs.Prelude.{◌≡◌, ℕ, Bool, true, false, List, map, length, slice_index_or, slice_set, Option, Some, None}
use Rattle.xw_grid.specs.declared.cell.LightName.{LightName}
use Rattle.xw_grid.specs.Light.{lights_of, index_named}
use Rattle.xw_feas.specs.State.{State}
use Rattle.xw_search.specs.Position.{Position, position_of, holding}
use Rattle.xw_search.specs.Lights.{lacks_words}
use Rattle.xw_fill.specs.declared.why.NoReason.{NoReason}
use Rattle.xw_fill.specs.declared.why.NoReason.TheVariants.{NoLight, Alive, Memory}

-- the entry of a cell, by the cell's index in reading order
abbrev pub entry_in : List (Option ℕ) → ℕ → Option ℕ
entry_in entries cell = slice_index_or entries cell None

-- whether the light has no feasible word with these entries alone
abbrev pub leaves_none : Position → ℕ → List (Option ℕ) → Bool
leaves_none position light entries = lacks_words (holding position entries) light

-- some of the entries of a grid, and no others
pub record IsPart (part entries : List (Option ℕ)) : Type 0 where
  pub long : length part ≡ length entries
  pub kept : (cell letter : ℕ) → entry_in part cell ≡ Some letter → entry_in entries cell ≡ Some letter

-- the entries of the empty grid
abbrev pub no_entries : List (Option ℕ) → List (Option ℕ)
no_entries entries = map (λ entry. None) entries

-- with any one of the entries emptied, the light has a feasible word
abbrev pub IsMinimal : Position → ℕ → List (Option ℕ) → Type 0
IsMinimal position light entries = (cell letter : ℕ) → entry_in entries cell ≡ Some letter → leaves_none position light (slice_set entries cell None) ≡ false

-- Entries of the position that leave the light no feasible word. None of them can be spared, and there are none if the
-- light has no feasible word even in the empty grid.
pub record IsReason (position : Position) (light : ℕ) (entries : List (Option ℕ)) : Type 0 where
  pub part : IsPart entries position.board.entries
  pub dead : leaves_none position light entries ≡ true
  pub minimal : IsMinimal position light entries
  pub least : leaves_none position light (no_entries position.board.entries) ≡ true → entries ≡ no_entries position.board.entries

-- ---- the light with a name

-- a reason for the light with this name
abbrev pub IsReasonOf : State → LightName → List (Option ℕ) → Type 0
IsReasonOf state name entries = (light : ℕ) × (index_named (lights_of state.grid) name ≡ Some light) × IsReason (position_of state) light entries

-- there is a light with this name, and whether it has no feasible word
abbrev pub IsLight : State → LightName → Bool → Type 0
IsLight state name dead = (light : ℕ) × (index_named (lights_of state.grid) name ≡ Some light) × (lacks_words (position_of state) light ≡ dead)

-- why there is no reason: there is no such light, it has a feasible word, or an allocation failed
abbrev pub IsRefused : State → LightName → NoReason → Type 0
IsRefused state name NoLight = index_named (lights_of state.grid) name ≡ None
IsRefused state name Alive = IsLight state name false
IsRefused state name Memory = IsLight state name true
