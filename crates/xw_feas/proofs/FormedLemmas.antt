-- The lights of a grid as the indices of their cells.
use Rattle.std.proofs.Common.{◌≡◌, ℕ, ◌+◌, ◌<◌, ◌≤◌, true, cond, [], map, length, get_or, sym, ◌∙◌, ap, arith, inl, inr}
use Rattle.std.specs.List.{range_with_len}
use Rattle.std.proofs.lemmas.Bool.{cases_lt}
use Rattle.std.proofs.lemmas.List.{get_or-map, get_or_past, length-map}
use Rattle.std.proofs.lemmas.List.Elements.{Contains-get_or}
use Rattle.std.proofs.lemmas.List.FromFn.{length-map-range_with_len, get_or-map-range_with_len}
use Rattle.xw_words.specs.Dictionary.{Dictionary, IsDictionary}
use Rattle.xw_grid.specs.declared.cell.Cell.{Cell}
use Rattle.xw_grid.specs.declared.cell.Direction.{Direction}
use Rattle.xw_grid.specs.declared.cell.Direction.TheVariants.{Across, Down}
use Rattle.xw_grid.specs.declared.lights.Light.{Light}
use Rattle.xw_grid.specs.Grid.{Grid, IsGrid, is_inside, is_open_square, index_of, cell_at}
use Rattle.xw_grid.specs.Grid.{is_open as grid_is_open}
use Rattle.std.specs.Prelude.{slice_get, None}
use Rattle.xw_grid.specs.Light.{step, lights_of, no_light}
use Rattle.xw_grid.proofs.GridLemmas.{cell_at-index_of}
use Rattle.xw_grid.proofs.LightLemmas.{inside_from_open, cells_of_are_open, size_of_light}
use Rattle.xw_grid.proofs.OrderLemmas.{lights_meet_once}
use Rattle.xw_feas.specs.Board.{board_of, light_at, is_open}
use Rattle.xw_feas.specs.WellFormed.{HasLetterEntries, IsLaidOut, IsWellFormed}
use Rattle.xw_feas.proofs.BoardLemmas.{length-open_cells, length-lights, length-entries, light_at-board, light_fits, is_open-square}
use Rattle.xw_feas.proofs.LightsLemmas.{names_apart}

abbrev pub light_in : Grid → ℕ → Light
light_in grid index = get_or (lights_of grid) index no_light

abbrev pub cell_of : Grid → ℕ → ℕ → Cell
cell_of grid index k = step (light_in grid index).name.direction (light_in grid index).start k

-- there is no light past the last one
light_past : (grid : Grid) (index : ℕ) → length (lights_of grid) ≤ index → light_at (board_of grid) index ≡ []
light_past grid index past = get_or_past (board_of grid).lights index [] (omega (arith, length-lights grid))

pub length-light_at : (grid : Grid) (index : ℕ) → index < length (lights_of grid) → length (light_at (board_of grid) index) ≡ (light_in grid index).size
length-light_at grid index within =
    let light = light_in grid index in
    ap length (light_at-board grid index no_light within)
    ∙ length-map (map (step light.name.direction light.start) (range_with_len 0 light.size)) (index_of grid)
    ∙ length-map-range_with_len (step light.name.direction light.start) 0 light.size

pub within_lights : (grid : Grid) (index k : ℕ) → k < length (light_at (board_of grid) index) → index < length (lights_of grid)
within_lights grid index k below = elim (cases_lt index (length (lights_of grid))) [
  | inl within ↦ within
  | inr past ↦ absurd (omega (arith, ap length (light_past grid index past)))
]

pub index_is : (grid : Grid) (index k : ℕ) → k < length (light_at (board_of grid) index) → get_or (light_at (board_of grid) index) k 0 ≡ index_of grid (cell_of grid index k)
index_is grid index k below =
    let within = within_lights grid index k below in
    let light = light_in grid index in
    let under : k < light.size = omega (arith, length-light_at grid index within) in
    ap (λ cells. get_or cells k 0) (light_at-board grid index no_light within)
    ∙ get_or-map (index_of grid) (map (step light.name.direction light.start) (range_with_len 0 light.size)) k light.start 0 (omega (arith, length-map-range_with_len (step light.name.direction light.start) 0 light.size))
    ∙ ap (index_of grid) (get_or-map-range_with_len (step light.name.direction light.start) 0 light.size k k light.start under (omega arith))

open_at : (grid : Grid) (index k : ℕ) → k < length (light_at (board_of grid) index) → grid_is_open grid (cell_of grid index k) ≡ true
open_at grid index k below =
    let within = within_lights grid index k below in
    cells_of_are_open grid index no_light within k (omega (arith, length-light_at grid index within))

pub inside_at : (grid : Grid) (index k : ℕ) → k < length (light_at (board_of grid) index) → is_inside grid (cell_of grid index k) ≡ true
inside_at grid index k below = inside_from_open grid (cell_of grid index k) (open_at grid index k below)

same_index : (grid : Grid) (a b : Cell) → is_inside grid a ≡ true → is_inside grid b ≡ true → index_of grid a ≡ index_of grid b → a ≡ b
same_index grid a b inside inside' same = sym (cell_at-index_of grid a inside) ∙ ap (cell_at grid) same ∙ cell_at-index_of grid b inside'

-- the same index in two lights is the same cell
pub same_cell_in : (grid : Grid) (light other i j : ℕ) → i < length (light_at (board_of grid) light) → j < length (light_at (board_of grid) other) → get_or (light_at (board_of grid) light) i 0 ≡ get_or (light_at (board_of grid) other) j 0 → cell_of grid light i ≡ cell_of grid other j
same_cell_in grid light other i j below below' same =
    same_index grid (cell_of grid light i) (cell_of grid other j) (inside_at grid light i below) (inside_at grid other j below') (sym (index_is grid light i below) ∙ same ∙ index_is grid other j below')

pub steps_apart : (direction : Direction) (first : Cell) (j k : ℕ) → step direction first j ≡ step direction first k → j ≡ k
steps_apart Across first j k same = let e : first.col + j ≡ first.col + k = ap (λ (cell : Cell). cell.col) same in omega arith
steps_apart Down first j k same = let e : first.row + j ≡ first.row + k = ap (λ (cell : Cell). cell.row) same in omega arith

meet_once : (grid : Grid) (light other i j k l : ℕ) → (light ≡ other → ⊥) → i < length (light_at (board_of grid) light) → k < length (light_at (board_of grid) light) → j < length (light_at (board_of grid) other) → l < length (light_at (board_of grid) other) → get_or (light_at (board_of grid) light) i 0 ≡ get_or (light_at (board_of grid) other) j 0 → get_or (light_at (board_of grid) light) k 0 ≡ get_or (light_at (board_of grid) other) l 0 → i ≡ k
meet_once grid light other i j k l apart below_i below_k below_j below_l first second =
    let within = within_lights grid light i below_i in
    let within' = within_lights grid other j below_j in
    let size = length-light_at grid light within in
    let size' = length-light_at grid other within' in
    elim (lights_meet_once grid (light_in grid light) (light_in grid other) i j k l (Contains-get_or (lights_of grid) light no_light within) (Contains-get_or (lights_of grid) other no_light within')
    (omega (arith, size)) (omega (arith, size)) (omega (arith, size')) (omega (arith, size'))
    (same_cell_in grid light other i j below_i below_j first) (same_cell_in grid light other k l below_k below_l second)) [
      | inl same ↦ absurd (apart (names_apart grid light other no_light within within' (ap (λ (found : Light). found.name) same)))
      | inr shared ↦ steps_apart (light_in grid light).name.direction (light_in grid light).start i k shared
    ]

open_in_board : (grid : Grid) (light k : ℕ) → k < length (light_at (board_of grid) light) → is_open (board_of grid) (get_or (light_at (board_of grid) light) k 0) ≡ true
open_in_board grid light k below =
    ap (is_open (board_of grid)) (index_is grid light k below)
    ∙ is_open-square grid (index_of grid (cell_of grid light k))
    ∙ sym (ap (λ inside. is_open_square (cond inside (slice_get grid.squares (index_of grid (cell_of grid light k))) None)) (inside_at grid light k below))
    ∙ open_at grid light k below

-- the board of a grid is laid out
pub laid_out : (grid : Grid) → IsGrid grid → HasLetterEntries (board_of grid) → IsLaidOut (board_of grid)
laid_out grid is letters = record {
  entries = length-entries grid ∙ sym (length-open_cells grid);
  several = λ light below.
      let within : light < length (lights_of grid) = omega (arith, length-lights grid) in
      omega (arith, length-light_at grid light within, size_of_light grid light no_light within);
  short = λ light. elim (cases_lt light (length (lights_of grid))) [
    | inl within ↦ omega (arith, length-light_at grid light within, (light_fits grid light no_light is within).size)
    | inr past ↦ omega (arith, ap length (light_past grid light past))
  ];
  cells_open = open_in_board grid;
  distinct = λ light j k below below' same. steps_apart (light_in grid light).name.direction (light_in grid light).start j k (same_cell_in grid light light j k below below' same);
  cross_once = meet_once grid;
  letters = letters;
}

pub formed : (grid : Grid) (words : Dictionary) → IsGrid grid → IsDictionary words → HasLetterEntries (board_of grid) → IsWellFormed (record { grid = grid; words = words })
formed grid words is dictionary letters = record { grid = is; board = laid_out grid is letters; dictionary = dictionary }

pub ruleset formed_steps = (formed)
