-- Lights through a cell.
use Rattle.std.specs.Prelude.{◌≡◌, ℕ, ◌<◌, length, slice_index}
use Rattle.xw_feas.specs.Board.{Board, light_at}

-- the light passes through the cell
abbrev pub Passes : Board → ℕ → ℕ → Type 0
Passes board cell light = (light < length board.lights) × ((position : ℕ) × (position < length (light_at board light)) × (slice_index (light_at board light) position ≡ cell))
