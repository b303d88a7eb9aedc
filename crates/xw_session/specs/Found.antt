-- The lines of what searches find: repeated words and suggestions.
use Rattle.std.specs.Prelude.{ℕ, List, [], ◌∷◌, codes, decimal, Option, Some, None}
use Rattle.xw_grid.specs.declared.cell.LightName.{LightName}
use Rattle.xw_grid.specs.declared.lights.Light.{Light}
use Rattle.xw_grid.specs.Grid.{Grid}
use Rattle.xw_words.specs.Dictionary.{entry_at, known_words}
use Rattle.xw_feas.specs.State.{State}
use Rattle.xw_search.specs.declared.listing.Duplicate.{Duplicate}
use Rattle.xw_fill.specs.declared.suggesting.Suggestion.{Suggestion}
use Rattle.xw_fill.specs.declared.suggesting.Suggestion.TheVariants as suggestions
use Rattle.xw_commands.specs.Names.{direction_name}
use Rattle.xw_answers.specs.Text.{line_of, light_of, repeat_line}

-- a light, the first earlier light that spells the same, and the word
abbrev pub duplicate_line : Grid → Duplicate → List ℕ
duplicate_line grid found = repeat_line grid found.light found.first

-- the length of a light, or 0 if there is no light
abbrev pub size_of : Option Light → ℕ
size_of None = 0
size_of (Some light) = light.size

-- the known word at an index among those of the light's length
abbrev pub word_at : State → LightName → ℕ → List ℕ
word_at engine name index = (entry_at (known_words engine.words (size_of (light_of engine.grid name))) index).word

-- the line of a suggestion
abbrev pub suggestion_line : State → Suggestion → List ℕ
suggestion_line engine (suggestions.Dead name) = line_of (codes "dead" ∷ decimal name.number ∷ direction_name name.direction ∷ [])
suggestion_line engine suggestions.Done = line_of (codes "done" ∷ [])
suggestion_line engine (suggestions.Try name index) = line_of (codes "try" ∷ decimal name.number ∷ direction_name name.direction ∷ word_at engine name index ∷ [])
suggestion_line engine (suggestions.NoWord name) = line_of (codes "noword" ∷ decimal name.number ∷ direction_name name.direction ∷ [])
