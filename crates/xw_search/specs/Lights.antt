-- The lights of a position: whether they are wholly entered, what they spell, and which spell the same.
use Rattle.std.specs.Prelude.{ℕ, Bool, ◌&&◌, not, ◌==◌, List, length, bytes_eq, Option}
use Rattle.xw_feas.specs.Board.{light_at, is_wholly_entered, spelled}
use Rattle.xw_search.specs.Position.{Position}
use Rattle.xw_search.specs.Below.{any_below, first_below}
use Rattle.xw_search.specs.FeasibleWords.{feasible_words}

abbrev pub light_count : Position → ℕ
light_count position = length position.board.lights

abbrev pub is_entered : Position → ℕ → Bool
is_entered position light = is_wholly_entered position.board (light_at position.board light)

-- the letters of a light, which are its word if it is wholly entered
abbrev pub spelling : Position → ℕ → List ℕ
spelling position light = spelled position.board (light_at position.board light)

-- both lights are wholly entered and spell the same
abbrev pub spell_same : Position → ℕ → ℕ → Bool
spell_same position light other = is_entered position light && (is_entered position other && bytes_eq (spelling position light) (spelling position other))

-- the light spells the same as an earlier light
abbrev pub is_repeat : Position → ℕ → Bool
is_repeat position light = any_below (spell_same position light) light

-- the first earlier light that spells the same
abbrev pub first_same : Position → ℕ → Option ℕ
first_same position light = first_below (spell_same position light) light

abbrev pub lacks_words : Position → ℕ → Bool
lacks_words position light = length (feasible_words position light) == 0

-- another light spells the same as this one
abbrev pub is_spelled_again : Position → ℕ → Bool
is_spelled_again position light = any_below (λ other. not (other == light) && spell_same position light other) (light_count position)
