-- The counts of the command `stats`.
use Rattle.std.specs.Prelude.{ℕ, ◌+◌, ◌*◌, ◌/◌, Bool, not, ◌==◌, List, [], ◌∷◌, length, flat_map, codes, decimal, Option, Some, None, true, false, if◌then◌else◌}
use Rattle.std.specs.List.{range_with_len, count_by, sum_by}
use Rattle.std.specs.Option.{is_some}
use Rattle.xw_grid.specs.declared.cell.Cell.{Cell}
use Rattle.xw_grid.specs.declared.cell.Side.TheVariants.{Right, Below}
use Rattle.xw_grid.specs.declared.cell.Direction.TheVariants.{Across, Down}
use Rattle.xw_grid.specs.declared.lights.Light.{Light}
use Rattle.xw_grid.specs.Grid.{Grid, cells, is_block, is_barred, entry}
use Rattle.xw_grid.specs.Light.{lights_of, index_through}
use Rattle.xw_answers.specs.declared.stats.Tally.{Tally}
use Rattle.xw_answers.specs.declared.stats.Tally.TheVariants as tallies
use Rattle.xw_answers.specs.declared.stats.Stat.{Stat}
use Rattle.xw_answers.specs.declared.stats.Stat.TheVariants as stats
use Rattle.xw_answers.specs.Text.{line_of, number_line, two_decimals}

-- ---- cells

abbrev pub is_letter : ℕ → Option ℕ → Bool
is_letter letter None = false
is_letter letter (Some entered) = entered == letter

-- exactly one of the two directions has a light
abbrev pub in_one : Bool → Bool → Bool
in_one true down = not down
in_one false down = down

abbrev pub is_unchecked : Grid → Cell → Bool
is_unchecked grid cell = in_one (is_some (index_through (lights_of grid) Across cell)) (is_some (index_through (lights_of grid) Down cell))

-- the cell is a block, has a bar on this side, has a letter, is in exactly one light, or has this letter
abbrev pub is_counted : Grid → Tally → Cell → Bool
is_counted grid tallies.Block cell = is_block grid cell
is_counted grid (tallies.Bar side) cell = is_barred grid cell side
is_counted grid tallies.Entered cell = is_some (entry grid cell)
is_counted grid tallies.Unchecked cell = is_unchecked grid cell
is_counted grid (tallies.Letter letter) cell = is_letter letter (entry grid cell)

abbrev pub count_of : Grid → Tally → ℕ
count_of grid tally = count_by (is_counted grid tally) (cells grid)

-- ---- lights

abbrev pub count_of_size : List Light → ℕ → ℕ
count_of_size lights size = count_by (λ light. light.size == size) lights

abbrev pub total_size : List Light → ℕ
total_size lights = sum_by (λ light. light.size) lights

-- the mean of `count` numbers with this sum, in hundredths, rounded to the nearest, with halves up; 0 for no numbers
abbrev pub mean_hundredths : ℕ → ℕ → ℕ
mean_hundredths count sum = if count == 0 then 0 else (200 * sum + count) / (2 * count)

-- ---- lines

-- the count of a thing; no line for 0
abbrev pub some_line : List ℕ → List ℕ → ℕ → List ℕ
some_line name thing count = if count == 0 then [] else line_of (name ∷ thing ∷ decimal count ∷ [])

abbrev pub size_line : Grid → ℕ → List ℕ
size_line grid size = some_line (codes "light") (decimal size) (count_of_size (lights_of grid) size)

abbrev pub letter_line : Grid → ℕ → List ℕ
letter_line grid letter = some_line (codes "letter") (letter ∷ []) (count_of grid (tallies.Letter letter))

-- for each length from 2 to 255, how many lights have it
abbrev pub size_lines : Grid → List ℕ
size_lines grid = flat_map (λ before. size_line grid (before + 2)) (range_with_len 0 254)

-- for each letter from A to Z, how many cells have it
abbrev pub letter_lines : Grid → List ℕ
letter_lines grid = flat_map (λ before. letter_line grid (before + 65)) (range_with_len 0 26)

abbrev pub mean_line : Grid → List ℕ
mean_line grid = line_of (codes "mean" ∷ two_decimals (mean_hundredths (length (lights_of grid)) (total_size (lights_of grid))) ∷ [])

abbrev pub bar_count : Grid → ℕ
bar_count grid = count_of grid (tallies.Bar Right) + count_of grid (tallies.Bar Below)

-- the line of a count, or its lines
abbrev pub stat_line : Grid → Stat → List ℕ
stat_line grid stats.Cells = number_line (codes "cells") (length (cells grid))
stat_line grid stats.Blocks = number_line (codes "blocks") (count_of grid tallies.Block)
stat_line grid stats.Bars = number_line (codes "bars") (bar_count grid)
stat_line grid stats.Entered = number_line (codes "entered") (count_of grid tallies.Entered)
stat_line grid stats.Lights = number_line (codes "lights") (length (lights_of grid))
stat_line grid stats.Sizes = size_lines grid
stat_line grid stats.Unchecked = number_line (codes "unchecked") (count_of grid tallies.Unchecked)
stat_line grid stats.Mean = mean_line grid
stat_line grid stats.Letters = letter_lines grid

abbrev pub all_stats : List Stat
all_stats = stats.Cells ∷ stats.Blocks ∷ stats.Bars ∷ stats.Entered ∷ stats.Lights ∷ stats.Sizes ∷ stats.Unchecked ∷ stats.Mean ∷ stats.Letters ∷ []

abbrev pub stat_lines : Grid → List ℕ
stat_lines grid = flat_map (stat_line grid) all_stats
