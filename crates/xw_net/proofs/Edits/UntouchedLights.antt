-- Lights that an edit keeps, and cells of those that it removes.
use Rattle.std.proofs.Common.{◌≡◌, ℕ, ◌<◌, Bool, List, [], length, Some, sym, ◌∙◌}
use Rattle.std.specs.Prelude.{Option, Ok, IsTrue, slice_index}
use Rattle.std.proofs.lemmas.List.{get_or_default}
use Rattle.xw_grid.specs.Grid.{IsGrid}
use Rattle.xw_feas.specs.Board.{Board, board_of, light_at}
use Rattle.xw_feas.specs.Feasible.{may_stand}
use Rattle.xw_feas.specs.Choices.{IsExact}
use Rattle.xw_feas.specs.State.{State, Action, after}
use Rattle.xw_net.specs.Revival.{StandsOn, same_light}
use Rattle.xw_net.specs.Region.{edited_cells, StandsIn, IsRegion}
use Rattle.xw_net.proofs.Costs.RegionIsClosed.{revival_spreads_gone}
use Rattle.xw_net.proofs.Edits.KeptByEdits.{IsWrittenAt, written_after, grid_of_after}
use Rattle.xw_net.proofs.Edits.SameLights.{same_is_whole}

module _ (before now : State) (action : Action) (is : IsGrid before.grid) (made : after before action ≡ Ok now) where
  abbrev old_board : Board
  old_board = board_of before.grid

  abbrev new_board : Board
  new_board = board_of now.grid

  abbrev same : ℕ → Option ℕ
  same = same_light before.grid now.grid

  written : IsWrittenAt before.grid now.grid (edited_cells before.grid action)
  written = written_after before.grid now.grid action is (grid_of_after before now action made)

  -- the light before that has the cells of one after
  pub matched : (light : ℕ) → light < length new_board.lights → StandsIn before (light_at new_board light) → (other : ℕ) × (other < length old_board.lights) × (same light ≡ Some other)
  matched light in_board (other, in_before, at) =
      (other, in_before, same_is_whole before.grid now.grid written.width light other in_board in_before (sym at ∙ get_or_default old_board.lights other (light_at new_board light) [] in_before))

  -- a light before that no light after matches is not in the grid after
  pub gone_stands_not : (other : ℕ) → other < length old_board.lights → ¬ StandsOn new_board same other → ¬ StandsIn now (light_at old_board other)
  gone_stands_not other in_before gone (light, in_board, at) =
      gone (light, in_board, same_is_whole before.grid now.grid written.width light other in_board in_before (sym (get_or_default new_board.lights light (light_at old_board other) [] in_board) ∙ at))

  module _ (member : List ℕ → Bool) (region : IsRegion before now action member) where
    -- each light through a cell of a removed light where a letter comes back is in the region
    pub freed_letter_within : (words letters : ℕ → ℕ → Bool) → IsExact old_board before.words words letters
        → (other j light k letter : ℕ) → other < length old_board.lights → ¬ StandsOn new_board same other → j < length (light_at old_board other) → light < length new_board.lights → k < length (light_at new_board light)
        → slice_index (light_at new_board light) k ≡ slice_index (light_at old_board other) j
        → IsTrue (may_stand new_board (slice_index (light_at old_board other) j) letter) → ¬ IsTrue (letters (slice_index (light_at old_board other) j) letter)
        → IsTrue (member (light_at new_board light))
    freed_letter_within words letters exact other j light k letter in_before gone below in_board below' meets may not_stood =
        revival_spreads_gone before now action member region words letters exact other j light k letter in_before (gone_stands_not other in_before gone) below in_board below' meets may not_stood
