-- What taking back a word that was placed for a look leaves.
use Rattle.std.specs.Prelude.{◌≡◌, ℕ, ◌<◌, Bool, false, cond, List, [], ◌∷◌, drop, length, slice_index, slice_index_or, slice_set, Option, None, is_none}
use Rattle.xw_feas.specs.Board.{Board, entry, light_at}
use Rattle.xw_feas.specs.State.{State}
use Rattle.xw_search.specs.Position.{Position, position_of, holding, DiffersInEntries}
use Rattle.xw_search.specs.Lights.{light_count}
use Rattle.xw_fill.specs.declared.trial.Trial.{Trial}

-- the entries after each flagged cell is cleared
abbrev pub without_letters : List (Option ℕ) → List ℕ → List Bool → List (Option ℕ)
without_letters entries [] blanks = entries
without_letters entries (cell ∷ cells) blanks = without_letters (cond (slice_index_or blanks 0 false) (slice_set entries cell None) entries) cells (drop 1 blanks)

abbrev pub taken_back : Position → Trial → Position
taken_back position trial = holding position (without_letters position.board.entries (light_at position.board trial.light) trial.blanks)

-- the flags mark exactly the empty cells
abbrev pub AreBlanks : Board → List ℕ → List Bool → Type 0
AreBlanks board cells blanks = (k : ℕ) → k < length cells → slice_index_or blanks k false ≡ is_none (entry board (slice_index cells k))

-- clearing the flagged cells of the light leads back to the state before
pub record LeadsBack (trial : Trial) (before after : State) : Type 0 where
  pub light : trial.light < light_count (position_of after)
  pub back : taken_back (position_of after) trial ≡ position_of before
  pub entries : DiffersInEntries before after
