-- Repeated words, words that are not active in the dictionary, and the grades of words.
use Rattle.std.specs.Prelude.{◌≡◌, ℕ, true, List, length, Contains, Option, Some, zero, suc, Bool, ◌&&◌, not, [], ◌∷◌, ◌++◌, map, None, option_map, bytes_eq, if◌then◌else◌}
use Rattle.xw_words.specs.Dictionary.{Dictionary, Entry, known_words, entry_at, index_of_word}
use Rattle.xw_search.specs.Position.{Position, position_of, name_at}
use Rattle.xw_search.specs.Lights.{is_entered, light_count, spelling, first_same}
use Rattle.std.specs.List.{list_any}
use Rattle.xw_grid.specs.declared.cell.LightName.{LightName}
use Rattle.xw_feas.specs.State.{State}
use Rattle.xw_search.specs.Below.{those_below}
use Rattle.xw_search.specs.declared.listing.Duplicate.{Duplicate}

-- the word is active in the dictionary
abbrev pub IsActive : Dictionary → List ℕ → Type 0
IsActive dictionary word = (known : Entry) × (Contains (known_words dictionary (length word)) known × (known.word ≡ word) × (known.active ≡ true))

abbrev pub duplicate_of : State → ℕ → Option ℕ → List Duplicate
duplicate_of state light None = []
duplicate_of state light (Some first) = record { light = name_at state light; first = name_at state first } ∷ []

-- those of the first n lights that spell the same as an earlier light, each with the first light that spells it
abbrev pub duplicates_below : State → ℕ → List Duplicate
duplicates_below state zero = []
duplicates_below state (suc n) = duplicates_below state n ++ duplicate_of state n (first_same (position_of state) n)

abbrev pub duplicates_of : State → List Duplicate
duplicates_of state = duplicates_below state (light_count (position_of state))

-- the word is active in the dictionary
abbrev pub is_listed : Position → List ℕ → Bool
is_listed position word = list_any (λ (known : Entry). known.active && bytes_eq known.word word) (known_words position.words (length word))

abbrev pub is_unlisted : Position → ℕ → Bool
is_unlisted position light = is_entered position light && not (is_listed position (spelling position light))

-- the wholly entered lights whose words are not active
abbrev pub unlisted_of : State → List LightName
unlisted_of state = map (name_at state) (those_below (is_unlisted (position_of state)) (light_count (position_of state)))

-- the grade of a known word, active or not
abbrev pub grade_of_word : Dictionary → List ℕ → Option ℕ
grade_of_word words word = option_map (λ index. (entry_at (known_words words (length word)) index).grade) (index_of_word words word)

-- the grade of the word of a light; none if the light is not wholly entered, or its word is not known
abbrev pub grade_of : Position → ℕ → Option ℕ
grade_of position light = if is_entered position light then grade_of_word position.words (spelling position light) else None
