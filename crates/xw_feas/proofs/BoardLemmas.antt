-- Lemmas about the board of a grid, and about words that agree with its letters.
use Rattle.std.proofs.Common.{◌≡◌, ℕ, zero, suc, ◌+◌, ◌-◌, ◌*◌, ◌<◌, ◌≤◌, Bool, true, false, ◌&&◌, eqb, List, [], ◌∷◌, map, length, get_or, drop, Some, None, refl, sym, ◌∙◌, ap, subst, arith, inl, inr}
use Rattle.std.specs.Prelude.{slice_get, All, is_some}
use Rattle.xw_letters.specs.Letter.{is_capital}
use Rattle.xw_letters.proofs.LetterSetLemmas.{has-none}
use Rattle.std.specs.List.{range_with_len}
use Rattle.std.proofs.Math.Nat.{add-mul}
use Rattle.std.proofs.lemmas.Nat.{mul-le}
use Rattle.std.proofs.lemmas.Bool.{cases_lt, cases_eq, ne_eqb, and_parts, false≢true}
use Rattle.std.proofs.lemmas.List.{drop_more, drop_all, get_or-map, get_or_past, length-map}
use Rattle.std.proofs.lemmas.List.FromFn.{length-map-range_with_len, get_or-map-range_with_len}
use Rattle.std.proofs.lemmas.Option.{slice_get-get_or, get_or_from_slice_get, slice_get_cases}
use Rattle.xw_grid.specs.declared.cell.Cell.{Cell}
use Rattle.xw_grid.specs.declared.cell.Square.TheVariants.{Block}
use Rattle.xw_grid.specs.declared.cell.Direction.{Direction}
use Rattle.xw_grid.specs.declared.cell.Direction.TheVariants.{Across, Down}
use Rattle.xw_grid.specs.declared.lights.Light.{Light}
use Rattle.xw_grid.specs.Grid.{Grid, IsGrid, is_inside, index_of, is_open_square, letter_in}
use Rattle.xw_grid.specs.Light.{step, lights_of, no_light}
use Rattle.xw_grid.proofs.GridLemmas.{IsInside-is_inside, index_of-lt}
use Rattle.xw_grid.proofs.LightLemmas.{inside_from_open, cells_of_are_open, size_of_light}
use Rattle.xw_feas.specs.Board.{Board, board_of, indices_of, square_is_open, square_entry, entry, is_open, light_at, allows, agrees, is_wholly_entered}
use Rattle.xw_feas.specs.Fits.{Fits, stride_of}

-- one more cell that agrees
pub agrees_more : (board : Board) (cells letters : List ℕ) (k : ℕ) → k < length cells → length letters ≡ length cells → allows (entry board (get_or cells k 0)) (get_or letters k 0) ≡ true → agrees board (drop k cells) (drop k letters) ≡ agrees board (drop (k + 1) cells) (drop (k + 1) letters)
agrees_more board cells letters k below same here =
    let below' : k < length letters = omega arith in
    rw (drop_more cells k 0 below, drop_more letters k 0 below', here) refl

-- each cell allows the letter of a word that agrees
pub agrees_at : (board : Board) (cells word : List ℕ) → agrees board cells word ≡ true → (k : ℕ) → k < length cells → allows (entry board (get_or cells k 0)) (get_or word k 0) ≡ true
agrees_at board [] word all k below = absurd (omega (arith, below))
agrees_at board (cell ∷ cells) [] all k below = absurd (false≢true all)
agrees_at board (cell ∷ cells) (letter ∷ word) all zero below = (and_parts (allows (entry board cell) letter) (agrees board cells word) all).0
agrees_at board (cell ∷ cells) (letter ∷ word) all (suc k) below = agrees_at board cells word (and_parts (allows (entry board cell) letter) (agrees board cells word) all).1 k (omega (arith, below))

-- and the word has as many letters
pub agrees_length : (board : Board) (cells word : List ℕ) → agrees board cells word ≡ true → length word ≡ length cells
agrees_length board [] [] all = refl
agrees_length board [] (letter ∷ word) all = absurd (false≢true all)
agrees_length board (cell ∷ cells) [] all = absurd (false≢true all)
agrees_length board (cell ∷ cells) (letter ∷ word) all = ap suc (agrees_length board cells word (and_parts (allows (entry board cell) letter) (agrees board cells word) all).1)

-- one more cell that has a letter, and one that has none
pub entered_more : (board : Board) (cells : List ℕ) (k : ℕ) → k < length cells → is_some (entry board (get_or cells k 0)) ≡ true → is_wholly_entered board (drop k cells) ≡ is_wholly_entered board (drop (k + 1) cells)
entered_more board cells k below here = rw (drop_more cells k 0 below, here) refl

pub entered_not : (board : Board) (cells : List ℕ) (k : ℕ) → k < length cells → is_some (entry board (get_or cells k 0)) ≡ false → is_wholly_entered board (drop k cells) ≡ false
entered_not board cells k below here = rw (drop_more cells k 0 below, here) refl

pub entered_all : (board : Board) (cells : List ℕ) (k : ℕ) → length cells ≤ k → is_wholly_entered board (drop k cells) ≡ true
entered_all board cells k past = rw (drop_all k cells past) refl

pub ruleset entered_steps = (entered_more, entered_not, entered_all)

-- a cell with a letter allows only that letter
pub allowed_one : (entered letter : ℕ) → is_capital entered ≡ true → eqb letter entered ≡ (is_capital letter && eqb entered letter)
allowed_one entered letter is = elim (cases_eq letter entered) [
  | inl e ↦ rw (e, is) refl
  | inr apart ↦ ne_eqb letter entered apart ∙ sym (ap (λ b. is_capital letter && b) (ne_eqb entered letter (λ e. apart (sym e))) ∙ no (is_capital letter))
] where
  no : (b : Bool) → (b && false) ≡ false
  no true = refl
  no false = refl

pub ruleset allowed_steps = (allowed_one, has-none)

-- ---- the board of a grid

map_agree : {A B : Type 0} (f g : A → B) → ((x : A) → f x ≡ g x) → (xs : List A) → map f xs ≡ map g xs
map_agree f g same [] = refl
map_agree f g same (x ∷ xs) = ap (λ y. y ∷ map f xs) (same x) ∙ ap (λ ys. g x ∷ ys) (map_agree f g same xs)

map-map : {A B C : Type 0} (g : B → C) (f : A → B) (xs : List A) → map g (map f xs) ≡ map (λ x. g (f x)) xs
map-map g f [] = refl
map-map g f (x ∷ xs) = ap (λ ys. g (f x) ∷ ys) (map-map g f xs)

pub length-indices : (first stride count : ℕ) → length (map (λ k. first + k * stride) (range_with_len 0 count)) ≡ count
length-indices first stride count = length-map-range_with_len (λ k. first + k * stride) 0 count

pub get_or-indices : (first stride count k : ℕ) → k < count → get_or (map (λ k. first + k * stride) (range_with_len 0 count)) k 0 ≡ first + k * stride
get_or-indices first stride count k below = get_or-map-range_with_len (λ k. first + k * stride) 0 count k k 0 below (omega arith)

pub stride_small : (k stride : ℕ) → k ≤ 255 → stride ≤ 255 → k * stride ≤ 65025
stride_small k stride small low = mul-le k stride 255 255 small low

-- the indices of the steps from a first cell
pub index_of-step : (grid : Grid) (direction : Direction) (first : Cell) (k : ℕ) → is_inside grid first ≡ true → index_of grid (step direction first k) ≡ index_of grid first + k * stride_of grid direction
index_of-step grid Across first k inside =
    let at = IsInside-is_inside grid first inside in
    let on : first.col + k - 1 ≡ first.col - 1 + k = omega (arith, at.col_low) in
    rw on (omega arith)
index_of-step grid Down first k inside =
    let at = IsInside-is_inside grid first inside in
    let on : first.row + k - 1 ≡ first.row - 1 + k = omega (arith, at.row_low) in
    rw (on, add-mul (first.row - 1) k grid.width) (omega arith)

pub indices_are : (grid : Grid) (light : Light) → Fits grid light → map (λ k. index_of grid light.start + k * stride_of grid light.name.direction) (range_with_len 0 light.size) ≡ indices_of grid light
indices_are grid light fits =
    map_agree (λ k. index_of grid light.start + k * stride_of grid light.name.direction) (λ k. index_of grid (step light.name.direction light.start k))
    (λ k. sym (index_of-step grid light.name.direction light.start k fits.start)) (range_with_len 0 light.size)
    ∙ sym (map-map (index_of grid) (step light.name.direction light.start) (range_with_len 0 light.size))

pub ruleset cells_steps = (length-indices, get_or-indices, stride_small, indices_are)

pub length-open_cells : (grid : Grid) → length (board_of grid).open_cells ≡ length grid.squares
unfolding board_of
length-open_cells grid = length-map grid.squares square_is_open

pub length-lights : (grid : Grid) → length (board_of grid).lights ≡ length (lights_of grid)
unfolding board_of
length-lights grid = length-map (lights_of grid) (indices_of grid)

pub length-entries : (grid : Grid) → length (board_of grid).entries ≡ length grid.squares
unfolding board_of
length-entries grid = length-map grid.squares square_entry

-- the light at an index of the list
pub light_at-board : (grid : Grid) (index : ℕ) (d : Light) → index < length (lights_of grid) → light_at (board_of grid) index ≡ indices_of grid (get_or (lights_of grid) index d)
unfolding board_of
light_at-board grid index d below = get_or-map (indices_of grid) (lights_of grid) index d [] below

pub light_at-found : (grid : Grid) (index : ℕ) (light : Light) → slice_get (lights_of grid) index ≡ Some light → index < length (lights_of grid) → light_at (board_of grid) index ≡ indices_of grid light
light_at-found grid index light found below =
    light_at-board grid index light below ∙ ap (indices_of grid) (get_or_from_slice_get (lights_of grid) index light light found)

last_inside : (grid : Grid) (index : ℕ) (d : Light) → index < length (lights_of grid) → (k : ℕ) → k < (get_or (lights_of grid) index d).size → is_inside grid (step (get_or (lights_of grid) index d).name.direction (get_or (lights_of grid) index d).start k) ≡ true
last_inside grid index d within k below = inside_from_open grid _ (cells_of_are_open grid index d within k below)

small_step : (grid : Grid) (direction : Direction) (first : Cell) (k : ℕ) → IsGrid grid → is_inside grid first ≡ true → is_inside grid (step direction first k) ≡ true → k + 1 ≤ 255
small_step grid Across first k is inside there =
    let here = IsInside-is_inside grid first inside in
    let last = IsInside-is_inside grid (step Across first k) there in
    omega (arith, here.col_low, last.col_high, is.wide.1)
small_step grid Down first k is inside there =
    let here = IsInside-is_inside grid first inside in
    let last = IsInside-is_inside grid (step Down first k) there in
    omega (arith, here.row_low, last.row_high, is.high.1)

pub first_step : (direction : Direction) (first : Cell) → step direction first 0 ≡ first
first_step Across first = ap (λ col. record { row = first.row; col = col }) (omega arith)
first_step Down first = ap (λ row. record { row = row; col = first.col }) (omega arith)

-- the lights of a grid lie inside it
pub light_fits : (grid : Grid) (index : ℕ) (d : Light) → IsGrid grid → index < length (lights_of grid) → Fits grid (get_or (lights_of grid) index d)
light_fits grid index d is within =
    let light = get_or (lights_of grid) index d in
    let long = size_of_light grid index d within in
    let start : is_inside grid light.start ≡ true = ap (is_inside grid) (sym (first_step light.name.direction light.start)) ∙ last_inside grid index d within 0 (omega arith) in
    record {
      start = start;
      size =
          let small : light.size - 1 + 1 ≤ 255 = small_step grid light.name.direction light.start (light.size - 1) is start (last_inside grid index d within (light.size - 1) (omega arith)) in
          omega arith;
    }

pub light_fits-found : (grid : Grid) (index : ℕ) (light : Light) → IsGrid grid → slice_get (lights_of grid) index ≡ Some light → index < length (lights_of grid) → Fits grid light
light_fits-found grid index light is found within =
    subst (Fits grid) (get_or_from_slice_get (lights_of grid) index light light found) (light_fits grid index light is within)

-- the cells of a light are cells of the board
pub light_in_board : (grid : Grid) (index : ℕ) → IsGrid grid → index < length (lights_of grid) → All (λ cell. cell < length (board_of grid).open_cells) (light_at (board_of grid) index)
light_in_board grid index is within =
    let light = get_or (lights_of grid) index no_light in
    let fits = light_fits grid index no_light is within in
    let At : List ℕ → Type 0 = λ cells. All (λ cell. cell < length (board_of grid).open_cells) cells in
    subst At (sym (light_at-board grid index no_light within)) (λ k d below.
    let long : length (indices_of grid light) ≡ light.size = length-map (map (step light.name.direction light.start) (range_with_len 0 light.size)) (index_of grid) ∙ length-map-range_with_len (step light.name.direction light.start) 0 light.size in
    let under : k < light.size = omega arith in
    let at : get_or (indices_of grid light) k d ≡ index_of grid (step light.name.direction light.start k) =
    get_or-map (index_of grid) (map (step light.name.direction light.start) (range_with_len 0 light.size)) k light.start d (omega (arith, length-map-range_with_len (step light.name.direction light.start) 0 light.size))
    ∙ ap (index_of grid) (get_or-map-range_with_len (step light.name.direction light.start) 0 light.size k k light.start under (omega arith)) in
    let inside : index_of grid (step light.name.direction light.start k) < grid.width * grid.height = index_of-lt grid _ (last_inside grid index no_light within k under) in
    omega (arith, at, inside, length-open_cells grid, is.squares))

pub slice_get_past : {X : Type 0} (xs : List X) (i : ℕ) → length xs ≤ i → slice_get xs i ≡ None
slice_get_past xs i past = elim (slice_get_cases xs i).1 [ inl found ↦ absurd (omega (arith, found.1)) | inr none ↦ none.1 ]

-- the state of a cell, by its square
pub is_open-square : (grid : Grid) (index : ℕ) → is_open (board_of grid) index ≡ is_open_square (slice_get grid.squares index)
unfolding board_of
is_open-square grid index = elim (cases_lt index (length grid.squares)) [
  | inl below ↦ get_or-map square_is_open grid.squares index Block false below ∙ sym (ap is_open_square (slice_get-get_or grid.squares index Block below))
  | inr past ↦
      get_or_past (map square_is_open grid.squares) index false (omega (arith, length-map grid.squares square_is_open))
      ∙ sym (ap is_open_square (slice_get_past grid.squares index past))
]

pub entry-square : (grid : Grid) (index : ℕ) → entry (board_of grid) index ≡ letter_in (slice_get grid.squares index)
unfolding board_of
entry-square grid index = elim (cases_lt index (length grid.squares)) [
  | inl below ↦ get_or-map square_entry grid.squares index Block None below ∙ sym (ap letter_in (slice_get-get_or grid.squares index Block below))
  | inr past ↦
      get_or_past (map square_entry grid.squares) index None (omega (arith, length-map grid.squares square_entry))
      ∙ sym (ap letter_in (slice_get_past grid.squares index past))
]

pub ruleset board_steps = (length-open_cells, length-entries, length-lights, light_at-found, light_fits-found, light_in_board, is_open-square, entry-square)
