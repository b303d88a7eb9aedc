-- The definitions about a position, under the same names, for the position of a state. A contract of code over any
-- engine speaks of the state of the engine, so it cites these.
use Rattle.std.specs.Prelude.{ℕ, Bool, List, Option}
use Rattle.xw_feas.specs.State.{State}
use Rattle.xw_search.specs.Position.{Position, position_of}
use Rattle.xw_fill.specs.Search
use Rattle.xw_search.specs.Lights
use Rattle.xw_fill.specs.Filling
use Rattle.xw_fill.specs.Words
use Rattle.xw_fill.specs.Suggesting
use Rattle.xw_fill.specs.Choices
use Rattle.xw_fill.specs.Reason
use Rattle.xw_fill.specs.Sparing
use Rattle.xw_fill.specs.declared.scan.Scan.{Scan}
use Rattle.xw_fill.specs.declared.search.Next.{Next}

-- ---- lights

abbrev pub lacks_words : State → ℕ → Bool
lacks_words state = Lights.lacks_words (position_of state)

-- ---- the search for a fill

abbrev pub is_dead : State → Bool
is_dead state = Search.is_dead (position_of state)

abbrev pub chosen : State → Option ℕ
chosen state = Search.chosen (position_of state)

abbrev pub found : State → Bool
found state = Search.found (position_of state)

abbrev pub due : State → ℕ
due state = Search.due (position_of state)

abbrev pub end : State → Position
end state = Search.end (position_of state)

abbrev pub scanned : State → Scan
scanned state = Filling.scanned (position_of state)

abbrev pub outlook : State → Next
outlook state = Filling.outlook (position_of state)

-- ---- words by their indices

abbrev pub spellings_at : State → ℕ → List (List ℕ)
spellings_at state = Words.spellings_at (position_of state)

abbrev pub words_left : State → ℕ → ℕ → List (List ℕ)
words_left state = Words.words_left (position_of state)

abbrev pub IsNextWord : State → ℕ → ℕ → ℕ → Type 0
IsNextWord state = Words.IsNextWord (position_of state)

abbrev pub HasNoMore : State → ℕ → ℕ → Type 0
HasNoMore state = Words.HasNoMore (position_of state)

-- ---- suggestions and choices

abbrev pub leaves_words : State → ℕ → List ℕ → Bool
leaves_words state = Suggesting.leaves_words (position_of state)

abbrev pub index_to_try : State → ℕ → Option ℕ
index_to_try state = Suggesting.index_to_try (position_of state)

abbrev pub IsTriedAt : State → ℕ → ℕ → Type 0
IsTriedAt state = Suggesting.IsTriedAt (position_of state)

abbrev pub fewest_words : State → Option ℕ
fewest_words state = Choices.fewest_words (position_of state)

-- ---- reasons

abbrev pub IsReason : State → ℕ → List (Option ℕ) → Type 0
IsReason state = Reason.IsReason (position_of state)

abbrev pub IsNeeded : State → ℕ → List (Option ℕ) → ℕ → Type 0
IsNeeded state = Sparing.IsNeeded (position_of state)
