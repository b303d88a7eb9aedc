-- Words that a search tries.
use Rattle.std.specs.Prelude.{◌≡◌, ℕ, ◌<◌, Bool, false, List, [], slice_index_or}
use Rattle.xw_feas.specs.State.{State}
use Rattle.xw_search.specs.Position.{Position, position_of, placed, DiffersInEntries}
use Rattle.xw_search.specs.Lights.{light_count}
use Rattle.xw_fill.specs.Suggesting.{IsTriedAt}
use Rattle.xw_fill.specs.Words.{spellings_at}
use Rattle.xw_fill.specs.declared.tries.Try.{Try}

-- the word of a try
abbrev pub word_of : Position → Try → List ℕ
word_of position tried = slice_index_or (spellings_at position tried.light) tried.index []

-- the word of the try is feasible in its light
abbrev pub CanBeMade : Try → State → Type 0
CanBeMade tried state = IsTriedAt (position_of state) tried.light tried.index

-- another word may always be tried in its place
abbrev pub is_forced : Try → Bool
is_forced tried = false

-- the try leads from one state to the other
pub record IsMade (tried : Try) (before after : State) : Type 0 where
  pub light : tried.light < light_count (position_of before)
  pub placed : position_of after ≡ placed (position_of before) tried.light (word_of (position_of before) tried)
  pub entries : DiffersInEntries before after
