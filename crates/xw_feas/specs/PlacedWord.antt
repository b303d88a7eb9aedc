-- What placing a word changes of a grid.
use Rattle.std.specs.Prelude.{◌≡◌, ℕ, ◌<◌, List, length, Some, Ok, slice_index, slice_index_or, Contains}
use Rattle.xw_letters.specs.Letter.{folded}
use Rattle.xw_grid.specs.declared.cell.Cell.{Cell}
use Rattle.xw_grid.specs.declared.cell.LightName.{LightName}
use Rattle.xw_grid.specs.declared.lights.Light.{Light}
use Rattle.xw_grid.specs.Grid.{Grid, IsGrid, entry, square_at}
use Rattle.xw_grid.specs.Light.{lights_of, cells_of, index_named, no_cell, no_light}
use Rattle.xw_feas.specs.State.{grid_after, word_placed}

-- the light holds the word, and nothing else has changed
pub record IsPlaced (before after : Grid) (light : Light) (word : List ℕ) : Type 0 where
  pub long : length word ≡ light.size
  -- each letter of the word is in the cell of the light at its position
  pub letters : (k : ℕ) → k < light.size → entry after (slice_index_or (cells_of light) k no_cell) ≡ Some (folded (slice_index word k))
  -- each other cell is as before
  pub others : (cell : Cell) → ¬ Contains (cells_of light) cell → square_at after cell ≡ square_at before cell
  -- size, bars and symmetry are as before
  pub rest : after ≡ record before { squares = after.squares }

-- an accepted `Place` places its word in the light that has its name
abbrev pub WordsArePlaced : Type 0
WordsArePlaced =
    (before after : Grid) (name : LightName) (word : List ℕ) → IsGrid before → grid_after before (word_placed name word) ≡ Ok after
    → (index : ℕ) × (index_named (lights_of before) name ≡ Some index) × IsPlaced before after (slice_index_or (lights_of before) index no_light) word
