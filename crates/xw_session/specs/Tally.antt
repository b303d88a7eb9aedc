-- The lines of tally: for each feasible letter of a cell how many feasible words of its lights have it there.
use Rattle.std.specs.Prelude.{ℕ, ◌-◌, ◌==◌, List, [], ◌∷◌, flat_map, codes, decimal, count_by, slice_index, slice_index_or, option_map, Option, Some, None}
use Rattle.xw_grid.specs.declared.cell.Cell.{Cell}
use Rattle.xw_grid.specs.declared.cell.Direction.{Direction}
use Rattle.xw_grid.specs.declared.cell.Direction.TheVariants.{Across, Down}
use Rattle.xw_grid.specs.Grid.{Grid, index_of}
use Rattle.xw_grid.specs.Light.{lights_of, no_light, index_through}
use Rattle.xw_feas.specs.State.{State}
use Rattle.xw_search.specs.OfState.{feasible_words, feasible_letters}
use Rattle.xw_answers.specs.Text.{line_of}

-- the index of a cell in a light, by the first cell of the light
abbrev pub distance : Direction → Cell → Cell → ℕ
distance Across first cell = cell.col - first.col
distance Down first cell = cell.row - first.row

-- the first cell of a light
abbrev pub start_of : Grid → ℕ → Cell
start_of grid light = (slice_index_or (lights_of grid) light no_light).start

-- the number of feasible words of a light in a direction that have the letter in a cell
abbrev pub words_with : State → Direction → Cell → ℕ → ℕ → ℕ
words_with engine direction cell letter light =
    count_by (λ word. slice_index word (distance direction (start_of engine.grid light) cell) == letter) (feasible_words engine light)

-- that number for the light in a direction through the cell; None if there is no such light
abbrev pub tally_at : State → Direction → Cell → ℕ → Option ℕ
tally_at engine direction cell letter = option_map (words_with engine direction cell letter) (index_through (lights_of engine.grid) direction cell)

abbrev pub number_or_dash : Option ℕ → List ℕ
number_or_dash None = codes "-"
number_or_dash (Some number) = decimal number

-- a letter with the counts of the across light and of the down light
abbrev pub tally_line : State → Cell → ℕ → List ℕ
tally_line engine cell letter =
    line_of ((letter ∷ []) ∷ number_or_dash (tally_at engine Across cell letter) ∷ number_or_dash (tally_at engine Down cell letter) ∷ [])

-- a line for each feasible letter of the cell
abbrev pub tally_lines : State → Cell → List ℕ
tally_lines engine cell = flat_map (tally_line engine cell) (feasible_letters engine (index_of engine.grid cell))
