-- The search for a fill: whether it finds one from a position (`found`), how many placements it takes (`due`), and
-- where it ends (`end`). `found_in`, `due_in` and `end_in` have a bound on the placements in a row only so that the
-- recursion ends. `IsSearched` of `Laws.antt` says what the three mean without a bound, and `FoundIsFill` and
-- `FillIsFound` there relate them to fills.
use Rattle.std.specs.Prelude.{ℕ, zero, suc, ◌+◌, Bool, true, cond, ◌&&◌, ◌||◌, not, nat_lt, List, [], ◌∷◌, length, Option, Some, None, is_none}
use Rattle.std.specs.List.{list_any}
use Rattle.xw_search.specs.Position.{Position, placed}
use Rattle.xw_search.specs.Below.{any_below, count_below}
use Rattle.xw_search.specs.FeasibleWords.{feasible_words}
use Rattle.xw_search.specs.Lights.{is_entered, is_repeat, lacks_words, light_count}

-- some light has no feasible word, or two wholly entered lights spell the same
unfoldable pub is_dead : Position → Bool
is_dead position = any_below (lacks_words position) (light_count position) || any_below (is_repeat position) (light_count position)

-- the light if it has fewer feasible words than the best so far, and otherwise the best so far
abbrev pub with_fewer : Position → Option ℕ → ℕ → ℕ
with_fewer position None light = light
with_fewer position (Some best) light = cond (nat_lt (length (feasible_words position light)) (length (feasible_words position best))) light best

-- the chosen light among the first n: of those not wholly entered, the first with the fewest feasible words
abbrev pub chosen_below : Position → ℕ → Option ℕ
chosen_below position zero = None
chosen_below position (suc n) = cond (is_entered position n) (chosen_below position n) (Some (with_fewer position (chosen_below position n) n))

unfoldable pub chosen : Position → Option ℕ
chosen position = chosen_below position (light_count position)

-- placing some feasible word of the chosen light leads to a fill, or no light is left to choose
abbrev pub found_by : (Position → Bool) → Position → Option ℕ → Bool
found_by found position None = true
found_by found position (Some light) = list_any (λ word. found (placed position light word)) (feasible_words position light)

-- whether a fill is found with at most this many placements in a row; `IsSearched` and `FillIsFound` say what it means
unfoldable pub found_in : ℕ → Position → Bool
found_in zero position = not (is_dead position) && is_none (chosen position)
found_in (suc n) position = not (is_dead position) && found_by (found_in n) position (chosen position)

-- The placements for a list of words, tried in order up to the first that leads to a fill: one for each, and those
-- that are due after it.
abbrev pub due_of : (List ℕ → Bool) → (List ℕ → ℕ) → List (List ℕ) → ℕ
due_of found due [] = 0
due_of found due (word ∷ words) = 1 + due word + cond (found word) 0 (due_of found due words)

abbrev pub due_by : (Position → Bool) → (Position → ℕ) → Position → Option ℕ → ℕ
due_by found due position None = 0
due_by found due position (Some light) = due_of (λ word. found (placed position light word)) (λ word. due (placed position light word)) (feasible_words position light)

-- the placements that the search takes, with at most this many in a row; `IsSearched` says what it means
unfoldable pub due_in : ℕ → Position → ℕ
due_in zero position = 0
due_in (suc n) position = cond (is_dead position) 0 (due_by (found_in n) (due_in n) position (chosen position))

-- the end after the first word that leads to a fill
abbrev pub end_of : (List ℕ → Bool) → (List ℕ → Position) → Position → List (List ℕ) → Position
end_of found end position [] = position
end_of found end position (word ∷ words) = cond (found word) (end word) (end_of found end position words)

abbrev pub end_by : (Position → Bool) → (Position → Position) → Position → Option ℕ → Position
end_by found end position None = position
end_by found end position (Some light) = end_of (λ word. found (placed position light word)) (λ word. end (placed position light word)) position (feasible_words position light)

-- the position at which the search ends, with at most this many placements in a row
unfoldable pub end_in : ℕ → Position → Position
end_in zero position = position
end_in (suc n) position = end_by (found_in n) (end_in n) position (chosen position)

-- The bound that is enough: each placement makes at least one more light wholly entered, so no path has more
-- placements than there are lights that are not.
abbrev pub unentered_count : Position → ℕ
unentered_count position = count_below (λ light. not (is_entered position light)) (light_count position)

abbrev pub found : Position → Bool
found position = found_in (unentered_count position) position

abbrev pub due : Position → ℕ
due position = due_in (unentered_count position) position

abbrev pub end : Position → Position
end position = end_in (unentered_count position) position
