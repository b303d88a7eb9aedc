-- A search notes which lights are wholly entered. The note of a light is the number of placements after which the
-- light was first seen wholly entered.
use Rattle.std.specs.Prelude.{◌≡◌, ℕ, ◌<◌, ◌≤◌, Bool, true, false, nat_lt, List, slice_index_or, Option, Some, None, is_some}
use Rattle.xw_search.specs.Position.{Position}
use Rattle.xw_search.specs.Lights.{light_count, is_entered, spell_same}

-- the note was made after fewer placements than these
abbrev pub within : Option ℕ → ℕ → Bool
within None placements = false
within (Some since) placements = nat_lt since placements

abbrev pub noted : List (Option ℕ) → ℕ → ℕ → Bool
noted since placements light = within (slice_index_or since light None) placements

-- the light has a note
abbrev pub has_note : List (Option ℕ) → ℕ → Bool
has_note since light = is_some (slice_index_or since light None)

-- notes that were made after fewer placements than these stay as they were
abbrev pub StayNoted : ℕ → List (Option ℕ) → List (Option ℕ) → Type 0
StayNoted placements before after = (light fewer : ℕ) → fewer ≤ placements → noted after fewer light ≡ noted before fewer light

-- the lights with a note are exactly the wholly entered lights
abbrev pub AreEntered : Position → (ℕ → Bool) → Type 0
AreEntered position is_noted = (light : ℕ) → light < light_count position → is_noted light ≡ is_entered position light

-- each light with a note is wholly entered
abbrev pub AreOnlyEntered : Position → (ℕ → Bool) → Type 0
AreOnlyEntered position is_noted = (light : ℕ) → light < light_count position → is_noted light ≡ true → is_entered position light ≡ true

-- no two lights with a note spell the same
abbrev pub SpellApart : Position → (ℕ → Bool) → Type 0
SpellApart position is_noted = (light other : ℕ) → other < light → light < light_count position → is_noted light ≡ true → is_noted other ≡ true → spell_same position light other ≡ false
