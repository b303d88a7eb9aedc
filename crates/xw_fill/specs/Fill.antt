-- The definition of a fill.
use Rattle.std.specs.Prelude.{◌≡◌, ℕ, ◌<◌, ◌≢◌, true, false, List, length, Option, Some}
use Rattle.xw_feas.specs.Board.{entry, light_at, is_wholly_entered, spelled}
use Rattle.xw_feas.specs.WellFormed.{HasLetterEntries}
use Rattle.xw_search.specs.Position.{Position, with_entries}
use Rattle.xw_search.specs.Lights.{is_entered}
use Rattle.xw_search.specs.Listing.{IsActive}

-- The entries are letters and keep every entry of the position. Each light is wholly entered with an active word,
-- unless it was wholly entered before. No two lights spell the same.
pub record IsFill (position : Position) (entries : List (Option ℕ)) : Type 0 where
  pub letters : HasLetterEntries (with_entries position.board entries)
  pub kept : (cell letter : ℕ) → entry position.board cell ≡ Some letter → entry (with_entries position.board entries) cell ≡ Some letter
  pub entered : (light : ℕ) → light < length position.board.lights → is_wholly_entered (with_entries position.board entries) (light_at position.board light) ≡ true
  pub words : (light : ℕ) → light < length position.board.lights → is_entered position light ≡ false → IsActive position.words (spelled (with_entries position.board entries) (light_at position.board light))
  pub distinct : (light other : ℕ) → light < other → other < length position.board.lights → spelled (with_entries position.board entries) (light_at position.board light) ≢ spelled (with_entries position.board entries) (light_at position.board other)
