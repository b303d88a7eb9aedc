-- The feasible words of a light as a computed list: a base word is feasible if some supported family has it. The
-- definition tries every list of pairs (light, base word) as a family.
use Rattle.std.specs.Prelude.{ℕ, zero, suc, Bool, ◌&&◌, ◌||◌, not, ◌==◌, List, [], ◌++◌, map, filter, length, slice_index, bytes_eq}
use Rattle.std.specs.List.{list_any, list_all}
use Rattle.xw_feas.specs.Board.{Board, light_at}
use Rattle.xw_words.specs.Dictionary.{Dictionary}
use Rattle.xw_feas.specs.Feasible.{base_words_at, may_stand}
use Rattle.xw_search.specs.Position.{Position}
use Rattle.xw_search.specs.Below.{all_below, any_part}

-- the index of a light, and a word
abbrev pub Pair : Type 0
Pair = ℕ × List ℕ

abbrev pub is_pair : ℕ → List ℕ → Pair → Bool
is_pair light word pair = pair.0 == light && bytes_eq word pair.1

-- the pair is of this light, and its word has this letter at position k
abbrev pub has_letter_at : ℕ → ℕ → ℕ → Pair → Bool
has_letter_at light k letter pair = pair.0 == light && slice_index pair.1 k == letter

-- for each light through the cell, some pair has a word with this letter at the cell
abbrev pub has_words_for : Board → List Pair → ℕ → ℕ → Bool
has_words_for board pairs cell letter =
    all_below (λ light. all_below (λ k. not (slice_index (light_at board light) k == cell) || list_any (has_letter_at light k letter) pairs) (length (light_at board light))) (length board.lights)

abbrev pub leaves_letter : Board → List Pair → ℕ → ℕ → Bool
leaves_letter board pairs cell letter = may_stand board cell letter && has_words_for board pairs cell letter

-- the word is a base word of its light, and the pairs leave each of its letters at its cell
abbrev pub is_kept : Board → Dictionary → List Pair → Pair → Bool
is_kept board dictionary pairs pair =
    list_any (bytes_eq pair.1) (base_words_at board dictionary pair.0)
    && all_below (λ k. leaves_letter board pairs (slice_index (light_at board pair.0) k) (slice_index pair.1 k)) (length (light_at board pair.0))

-- the pairs of each of the first n lights with each of its base words
abbrev pub base_pairs : Board → Dictionary → ℕ → List Pair
base_pairs board dictionary zero = []
base_pairs board dictionary (suc n) = base_pairs board dictionary n ++ map (λ (word : List ℕ). (n, word)) (base_words_at board dictionary n)

abbrev pub is_family_with : Position → ℕ → List ℕ → List Pair → Bool
is_family_with state light word pairs = list_all (is_kept state.board state.words pairs) pairs && list_any (is_pair light word) pairs

unfoldable pub is_feasible_word : Position → ℕ → List ℕ → Bool
is_feasible_word state light word = any_part (is_family_with state light word) (base_pairs state.board state.words (length state.board.lights))

unfoldable pub feasible_words : Position → ℕ → List (List ℕ)
feasible_words state light = filter (is_feasible_word state light) (base_words_at state.board state.words light)
