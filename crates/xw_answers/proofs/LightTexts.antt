-- The lines of lights.
use Rattle.std.proofs.Common.{◌≡◌, ℕ, suc, ◌+◌, ◌-◌, ◌*◌, ◌<◌, ◌≤◌, true, ◌&&◌, List, [], ◌∷◌, ◌++◌, length, map, take, get_or, refl, sym, subst, ap, ◌∙◌, arith, zero-add, length-take}
use Rattle.std.specs.Prelude.{Option, Some, None, slice_get, if◌then◌else◌}
use Rattle.std.specs.Option.{option_and_then}
use Rattle.std.proofs.lemmas.Option.{slice_get_within, get_or_from_slice_get}
use Rattle.std.specs.List.{range_with_len}
use Rattle.std.proofs.lemmas.Bool.{ne_eqb}
use Rattle.std.proofs.lemmas.List.{take_more, take_all, length-map}
use Rattle.std.proofs.lemmas.List.FromFn.{take-map-range_with_len, length-map-range_with_len, get_or-map-range_with_len}
use Rattle.std.proofs.lemmas.List.Sums.{count_by-le-length}
use Rattle.xw_text.proofs.Position.{position_is_none}
use Rattle.xw_grid.specs.declared.cell.Cell.{Cell}
use Rattle.xw_grid.specs.declared.cell.LightName.{LightName}
use Rattle.xw_grid.specs.declared.cell.Direction.{Direction}
use Rattle.xw_grid.specs.declared.cell.Direction.TheVariants.{Across, Down}
use Rattle.xw_grid.specs.declared.lights.Light.{Light}
use Rattle.xw_grid.specs.Grid.{Grid, IsGrid, is_inside, cells, cell_at, index_of, letter_in, entry}
use Rattle.xw_grid.specs.Light.{begins_some, cells_of, lights_of, no_light, index_named, same_name, same_direction, step}
use Rattle.xw_grid.proofs.GridLemmas.{IsInside-is_inside, length-cells, get_or-map-cells, size_small}
use Rattle.xw_grid.proofs.LightLemmas.{length-line, get_or-line, size_of_light, step-zero}
use Rattle.xw_grid.proofs.OrderLemmas.{lights_are_made, made_number}
use Rattle.xw_grid.proofs.LightTableLemmas.{light_inside}
use Rattle.xw_feas.specs.Board.{board_of, light_at, entry as board_entry}
use Rattle.xw_feas.proofs.BoardLemmas.{entry-square, light_at-board}
use Rattle.xw_answers.specs.Text.{letter_or_dot, letters_at, pattern}

-- a run of cells inside a grid has at most 255 cells
line_short : (grid : Grid) (direction : Direction) (start : Cell) (size : ℕ) → IsGrid grid → 2 ≤ size → is_inside grid start ≡ true → is_inside grid (step direction start (size - 1)) ≡ true
    → (size ≤ 255) × (start.row ≤ 255) × (start.col ≤ 255)
line_short grid Across start size is several first last =
    let a = IsInside-is_inside grid start first in
    let b = IsInside-is_inside grid (step Across start (size - 1)) last in
    (omega (arith, is.wide, a.col_low, b.col_high), omega (arith, is.high, a.row_high), omega (arith, is.wide, a.col_high))
line_short grid Down start size is several first last =
    let a = IsInside-is_inside grid start first in
    let b = IsInside-is_inside grid (step Down start (size - 1)) last in
    (omega (arith, is.high, a.row_low, b.row_high), omega (arith, is.high, a.row_high), omega (arith, is.wide, a.col_high))

pub light_short : (grid : Grid) (index : ℕ) → IsGrid grid → index < length (lights_of grid)
    → ((get_or (lights_of grid) index no_light).size ≤ 255) × ((get_or (lights_of grid) index no_light).start.row ≤ 255) × ((get_or (lights_of grid) index no_light).start.col ≤ 255)
light_short grid index is within =
    let light = get_or (lights_of grid) index no_light in
    let several = size_of_light grid index no_light within in
    let inside = light_inside grid index no_light within in
    let first : is_inside grid light.start ≡ true = ap (is_inside grid) (sym (step-zero light.name.direction light.start)) ∙ inside 0 (omega (arith, several)) in
    line_short grid light.name.direction light.start light.size is several first (inside (light.size - 1) (omega (arith, several)))

-- the same for a light found by its name
pub found_short : (grid : Grid) (lights : List Light) (light : Light) (at : Option ℕ) → lights ≡ lights_of grid → IsGrid grid → option_and_then (slice_get lights) at ≡ Some light
    → (light.size ≤ 255) × (light.start.row ≤ 255) × (light.start.col ≤ 255)
found_short grid lights light None same is e = cc
found_short grid lights light (Some index) same is e =
    let there : slice_get (lights_of grid) index ≡ Some light = rw (← same) e in
    let within : index < length (lights_of grid) = slice_get_within (lights_of grid) index light there in
    subst (λ (l : Light). (l.size ≤ 255) × (l.start.row ≤ 255) × (l.start.col ≤ 255)) (get_or_from_slice_get (lights_of grid) index light no_light there) (light_short grid index is within)

-- the numbers of lights fit in 16 bits
numbers_small : (grid : Grid) (index : ℕ) → IsGrid grid → index < length (lights_of grid) → (get_or (lights_of grid) index no_light).name.number ≤ 65026
numbers_small grid index is within =
    let light = get_or (lights_of grid) index no_light in
    let before = take (index_of grid light.start) (cells grid) in
    let number = made_number grid light (lights_are_made grid index no_light within) in
    let few = count_by-le-length (begins_some grid) before in
    let most = size_small grid.width grid.height is.wide.1 is.high.1 in
    omega (arith, number, few, length-take (index_of grid light.start) (cells grid), length-cells grid, most)

pub no_such_number : (grid : Grid) (name : LightName) → IsGrid grid → 65536 ≤ name.number → index_named (lights_of grid) name ≡ None
no_such_number grid name is large =
    position_is_none (λ light. same_name light.name name) (lights_of grid) no_light (λ k within.
    let small = numbers_small grid k is within in
    let light = get_or (lights_of grid) k no_light in
    ap (λ b. b && same_direction light.name.direction name.direction) (ne_eqb light.name.number name.number (λ e. let no : 65536 ≤ 65026 = omega (arith, e, small, large) in absurd (omega (arith, no)))))

-- the list of a function's values, after one more value
pub one_more_made : (f : ℕ → ℕ) (k : ℕ) → map f (range_with_len 0 (k + 1)) ≡ map f (range_with_len 0 k) ++ f k ∷ []
one_more_made f k =
    let all = map f (range_with_len 0 (k + 1)) in
    let long : length all ≡ k + 1 = length-map-range_with_len f 0 (k + 1) in
    sym (take_all (k + 1) all (omega (arith, long)))
    ∙ take_more all k 0 (omega (arith, long))
    ∙ ap (λ front. front ++ get_or all k 0 ∷ []) (take-map-range_with_len f 0 (k + 1) k (omega arith))
    ∙ ap (λ x. map f (range_with_len 0 k) ++ x ∷ []) (get_or-map-range_with_len f 0 (k + 1) k k 0 (omega arith) (zero-add k))

-- the letters of a light, from the indices of its cells
map_twice : {A B C : Type 0} (g : B → C) (f : A → B) (xs : List A) → map g (map f xs) ≡ map (λ x. g (f x)) xs
map_twice g f [] = refl
map_twice g f (x ∷ xs) = ap (λ ys. g (f x) ∷ ys) (map_twice g f xs)

pub pattern_by_positions : (grid : Grid) (light : Light) → pattern grid light ≡ map (λ k. letter_or_dot (entry grid (step light.name.direction light.start k))) (range_with_len 0 light.size)
pattern_by_positions grid light = map_twice (λ cell. letter_or_dot (entry grid cell)) (step light.name.direction light.start) (range_with_len 0 light.size)

-- the cells in reading order
pub cell_in_order : (grid : Grid) (k : ℕ) (d : Cell) → k < grid.width * grid.height → get_or (cells grid) k d ≡ cell_at grid k
cell_in_order grid k d below = ap (λ xs. get_or xs k d) (sym (map_itself (cells grid))) ∙ get_or-map-cells grid (λ cell. cell) k d below where
  map_itself : (xs : List Cell) → map (λ cell. cell) xs ≡ xs
  map_itself [] = refl
  map_itself (x ∷ xs) = ap (λ ys. x ∷ ys) (map_itself xs)

-- the letters of a light, from the cells of the board
module _ (grid : Grid) where
  letter_on_board : (cell : Cell) → is_inside grid cell ≡ true → letter_or_dot (board_entry (board_of grid) (index_of grid cell)) ≡ letter_or_dot (entry grid cell)
  letter_on_board cell inside =
      ap letter_or_dot (entry-square grid (index_of grid cell) ∙ sym (ap (λ b. letter_in (if b then slice_get grid.squares (index_of grid cell) else None)) inside))

  letters_on_board : (cells : List Cell) → ((k : ℕ) (d : Cell) → k < length cells → is_inside grid (get_or cells k d) ≡ true) → letters_at (board_of grid) (map (index_of grid) cells) ≡ map (λ cell. letter_or_dot (entry grid cell)) cells
  letters_on_board [] inside = refl
  letters_on_board (cell ∷ cells) inside =
      rw (letter_on_board cell (inside 0 cell (omega arith)), letters_on_board cells (λ k d below. inside (suc k) d (omega arith))) refl

  pub pattern_on_board : (index : ℕ) → index < length (lights_of grid) → letters_at (board_of grid) (light_at (board_of grid) index) ≡ pattern grid (get_or (lights_of grid) index no_light)
  pattern_on_board index within =
      let light = get_or (lights_of grid) index no_light in
      let inside : (k : ℕ) (d : Cell) → k < length (cells_of light) → is_inside grid (get_or (cells_of light) k d) ≡ true = λ k d below.
      let there : k < light.size = omega (arith, below, length-line light.name.direction light.start light.size) in
      ap (is_inside grid) (get_or-line light.name.direction light.start light.size k d there) ∙ light_inside grid index no_light within k there in
      ap (letters_at (board_of grid)) (light_at-board grid index no_light within) ∙ letters_on_board (cells_of light) inside

  -- a light of the board has at most 255 cells
  pub few_cells : (index : ℕ) → IsGrid grid → index < length (lights_of grid) → length (light_at (board_of grid) index) ≤ 255
  few_cells index is within =
      let light = get_or (lights_of grid) index no_light in
      omega (arith, ap length (light_at-board grid index no_light within), length-map (cells_of light) (index_of grid), length-line light.name.direction light.start light.size, (light_short grid index is within).0)
