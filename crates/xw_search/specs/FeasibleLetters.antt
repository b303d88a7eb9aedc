-- The feasible letters of a cell as a computed list: a letter is feasible if some supported family of pairs leaves it
-- at the cell. The definition tries all families, as `FeasibleWords.antt` does.
use Rattle.std.specs.Prelude.{ℕ, Bool, ◌&&◌, List, filter, length}
use Rattle.std.specs.List.{list_all}
use Rattle.xw_letters.specs.Letter.{alphabet}
use Rattle.xw_search.specs.Position.{Position}
use Rattle.xw_search.specs.Below.{any_part}
use Rattle.xw_search.specs.FeasibleWords.{Pair, leaves_letter, is_kept, base_pairs}

abbrev pub is_family_leaving : Position → ℕ → ℕ → List Pair → Bool
is_family_leaving state cell letter pairs = list_all (is_kept state.board state.words pairs) pairs && leaves_letter state.board pairs cell letter

unfoldable pub is_feasible_letter : Position → ℕ → ℕ → Bool
is_feasible_letter state cell letter = any_part (is_family_leaving state cell letter) (base_pairs state.board state.words (length state.board.lights))

unfoldable pub feasible_letters : Position → ℕ → List ℕ
feasible_letters state cell = filter (is_feasible_letter state cell) alphabet
