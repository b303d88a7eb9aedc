-- The feasible words of a light, by their indices in the dictionary.
use Rattle.std.specs.Prelude.{◌≡◌, ℕ, ◌<◌, ◌≤◌, true, false, List, [], take, drop, filter, length, slice_index_or}
use Rattle.xw_feas.specs.Board.{light_at}
use Rattle.xw_feas.specs.Known.{spellings}
use Rattle.xw_search.specs.Position.{Position}
use Rattle.xw_search.specs.FeasibleWords.{is_feasible_word}

abbrev pub spellings_at : Position → ℕ → List (List ℕ)
spellings_at position light = spellings position.words (length (light_at position.board light))

-- the feasible words before an index, and those from it on
abbrev pub words_before : Position → ℕ → ℕ → List (List ℕ)
words_before position light n = filter (is_feasible_word position light) (take n (spellings_at position light))

abbrev pub words_left : Position → ℕ → ℕ → List (List ℕ)
words_left position light n = filter (is_feasible_word position light) (drop n (spellings_at position light))

-- the word at this index is feasible, and it is the first feasible word at `from` or later
pub record IsNextWord (position : Position) (light from index : ℕ) : Type 0 where
  pub above : from ≤ index
  pub within : index < length (spellings_at position light)
  pub feasible : is_feasible_word position light (slice_index_or (spellings_at position light) index []) ≡ true
  pub first : (k : ℕ) → from ≤ k → k < index → is_feasible_word position light (slice_index_or (spellings_at position light) k []) ≡ false

-- no word at `from` or later is feasible
abbrev pub HasNoMore : Position → ℕ → ℕ → Type 0
HasNoMore position light from = (k : ℕ) → from ≤ k → k < length (spellings_at position light) → is_feasible_word position light (slice_index_or (spellings_at position light) k []) ≡ false
