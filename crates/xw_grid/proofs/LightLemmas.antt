-- Lemmas about the lights of a grid.
use Rattle.std.proofs.Common.{◌≡◌, ℕ, zero, suc, ◌+◌, ◌-◌, ◌*◌, ◌<◌, ◌≤◌, Bool, true, false, cond, not, leb, ◌&&◌, List, [], ◌∷◌, length, get_or, lit<, refl, ap, sym, subst, ◌∙◌, arith}
use Rattle.std.proofs.lemmas.List.FromFn.{length-map-range_with_len, get_or-map-range_with_len}
use Rattle.std.proofs.lemmas.List.Sums.{prefix_len_is, prefix_len_passes, prefix_len_stops, prefix_len-le-length}
use Rattle.std.proofs.lemmas.Bool.{false≢true}
use Rattle.std.proofs.lemmas.Bool.Decides.{nat_tests}
use Rattle.std.specs.List.{prefix_len}
use Rattle.std.specs.Prelude.{None, slice_get, All, Contains, flat_map}
use Rattle.std.proofs.lemmas.List.{same_lists, get_or_default}
use Rattle.std.proofs.lemmas.List.Elements.{All-nil, All-cons, All-append, Contains-append_left, Contains-append_right}
use Rattle.xw_grid.specs.declared.cell.Cell.{Cell}
use Rattle.xw_grid.specs.declared.cell.Direction.{Direction}
use Rattle.xw_grid.specs.declared.cell.Direction.TheVariants.{Across, Down}
use Rattle.xw_grid.specs.Grid.{Grid, is_inside, is_open, is_open_square, index_of, cells, cell_at}
use Rattle.xw_grid.specs.LightLaws.{LightsBegin, IsLightOf, LightsAreLights, LightsAreAll}
use Rattle.xw_grid.specs.Light.{no_cell, is_joined, next, previous, step, line, extent, run_from, begins, IsLight, light_from, light_starting, lights_at, lights_of}
use Rattle.xw_grid.specs.declared.lights.Light.{Light}
use Rattle.xw_grid.proofs.GridLemmas.{and-true, IsInside-is_inside, index_of-lt, length-cells, cell_at-index_of}

-- the cell after one more step
pub step-next : (direction : Direction) (first : Cell) (k : ℕ) → step direction first (k + 1) ≡ next direction (step direction first k)
step-next Across first k = ap (λ col. record { row = first.row; col = col }) (omega arith)
step-next Down first k = ap (λ row. record { row = row; col = first.col }) (omega arith)

pub step-zero : (direction : Direction) (first : Cell) → step direction first 0 ≡ first
step-zero Across first = ap (λ col. record { row = first.row; col = col }) (omega arith)
step-zero Down first = ap (λ row. record { row = row; col = first.col }) (omega arith)

-- an open cell is inside the grid
pub inside_from_open : (grid : Grid) (cell : Cell) → is_open grid cell ≡ true → is_inside grid cell ≡ true
inside_from_open grid cell open_cell =
    elim (is_inside grid cell) as (λ b. is_inside grid cell ≡ b → is_open_square (cond b (slice_get grid.squares (index_of grid cell)) None) ≡ true → b ≡ true) [ true ↦ λ _ _. refl | false ↦ λ _ h. cc ] refl open_cell

-- if a cell is joined to the next one, both are inside the grid
pub joined_inside : (grid : Grid) (direction : Direction) (cell : Cell) → is_joined grid direction cell ≡ true → (is_inside grid cell ≡ true) × (is_inside grid (next direction cell) ≡ true)
joined_inside grid direction cell joined =
    let open_both = and-true (is_open grid cell && is_open grid (next direction cell)) _ joined in
    let opens = and-true (is_open grid cell) (is_open grid (next direction cell)) open_both.0 in
    (inside_from_open grid cell opens.0, inside_from_open grid (next direction cell) opens.1)

-- a cell past the end of the row or column is not joined to the next one
past_end : (grid : Grid) (direction : Direction) (first : Cell) → is_inside grid first ≡ true → is_joined grid direction (step direction first (extent grid direction)) ≡ true → ⊥
past_end grid Across first inside joined =
    let there = IsInside-is_inside grid _ (joined_inside grid Across _ joined).1 in
    let here = IsInside-is_inside grid first inside in
    omega (arith, there.col_high)
past_end grid Down first inside joined =
    let there = IsInside-is_inside grid _ (joined_inside grid Down _ joined).1 in
    let here = IsInside-is_inside grid first inside in
    omega (arith, there.row_high)

pub length-line : (direction : Direction) (first : Cell) (n : ℕ) → length (line direction first n) ≡ n
length-line direction first n = length-map-range_with_len (step direction first) 0 n

pub get_or-line : (direction : Direction) (first : Cell) (n k : ℕ) (d : Cell) → k < n → get_or (line direction first n) k d ≡ step direction first k
get_or-line direction first n k d within = get_or-map-range_with_len (step direction first) 0 n k k d within (omega arith)

-- the length of a run
pub run_is : (grid : Grid) (direction : Direction) (first : Cell) (n : ℕ) → n ≤ extent grid direction → ((k : ℕ) → k < n → is_joined grid direction (step direction first k) ≡ true) → (n < extent grid direction → is_joined grid direction (step direction first n) ≡ false) → run_from grid direction first ≡ n + 1
run_is grid direction first n within joined ends =
    let cells = line direction first (extent grid direction) in
    let at : (k : ℕ) → k < extent grid direction → get_or cells k first ≡ step direction first k = λ k h. get_or-map-range_with_len (step direction first) 0 (extent grid direction) k k first h (omega arith) in
    let long : length cells ≡ extent grid direction = length-map-range_with_len (step direction first) 0 (extent grid direction) in
    ap (λ m. m + 1) (prefix_len_is (is_joined grid direction) cells n first (omega arith)
    (λ k h. ap (is_joined grid direction) (at k (omega arith)) ∙ joined k h)
    (λ h. ap (is_joined grid direction) (at n (omega arith)) ∙ ends (omega arith)))

-- the cell before the next one
pub previous-next : (direction : Direction) (before cell : Cell) → next direction before ≡ cell → previous direction cell ≡ before
previous-next Across before cell e =
    ap (previous Across) (sym e) ∙ ap (λ col. record { row = before.row; col = col }) (let h : before.col + 1 - 1 ≡ before.col = omega arith in h)
previous-next Down before cell e =
    ap (previous Down) (sym e) ∙ ap (λ row. record { row = row; col = before.col }) (let h : before.row + 1 - 1 ≡ before.row = omega arith in h)

pub not_true : (b : Bool) → not b ≡ true → b ≡ false
not_true true h = sym h
not_true false h = refl

-- where a light begins, the consecutive cells that are joined are a light
pub light_is : (grid : Grid) (direction : Direction) (first : Cell) → begins grid direction first ≡ true → IsLight grid direction (line direction first (run_from grid direction first))
light_is grid direction first begin =
    let joined = is_joined grid direction in
    let most = extent grid direction in
    let cells = line direction first most in
    let count = prefix_len joined cells in
    let light = line direction first (count + 1) in
    let parts = and-true (joined first) (not (joined (previous direction first))) begin in
    let inside = (joined_inside grid direction first parts.0).0 in
    let long : length light ≡ count + 1 = length-line direction first (count + 1) in
    let enough : length cells ≡ most = length-line direction first most in
    let passes : (k : ℕ) → k < count → joined (step direction first k) ≡ true =
    λ k h. ap joined (sym (get_or-line direction first most k first (omega (arith, prefix_len-le-length joined cells)))) ∙ prefix_len_passes joined cells k first h in
    let stops : joined (step direction first count) ≡ false =
    elim (joined (step direction first count)) as (λ b. joined (step direction first count) ≡ b → b ≡ false) [
      | true ↦ λ on. elim (leb most count) as (λ b. leb most count ≡ b → true ≡ false) [
        | true ↦ λ past.
            let at : count ≡ most = grind (arith, nat_tests, prefix_len-le-length joined cells, enough) in
            absurd (past_end grid direction first inside (ap (λ n. joined (step direction first n)) (sym at) ∙ on))
        | false ↦ λ before.
            let within : count < most = grind (arith, nat_tests) in
            sym on ∙ ap joined (sym (get_or-line direction first most count first within)) ∙ prefix_len_stops joined cells first (omega (arith, enough, within))
      ] refl
      | false ↦ λ _. refl
    ] refl in
    let some : 1 ≤ count = elim (leb 1 count) as (λ b. leb 1 count ≡ b → 1 ≤ count) [
      | true ↦ λ h. grind (arith, nat_tests)
      | false ↦ λ h.
          let none : count ≡ 0 = grind (arith, nat_tests) in
          absurd (false≢true (sym stops ∙ ap (λ n. joined (step direction first n)) none ∙ ap joined (step-zero direction first) ∙ parts.0))
    ] refl in
    record {
      several = omega arith;
      follow = λ k d within. get_or-line direction first (count + 1) (k + 1) d (omega arith) ∙ step-next direction first k ∙ ap (next direction) (sym (get_or-line direction first (count + 1) k d (omega arith)));
      joined = λ k d within. ap joined (get_or-line direction first (count + 1) k d (omega arith)) ∙ passes k (omega arith);
      no_cell_before = λ before d e.
          let is_first : get_or light 0 d ≡ first = get_or-line direction first (count + 1) 0 d (omega arith) ∙ step-zero direction first in
          ap joined (sym (previous-next direction before first (e ∙ is_first))) ∙ not_true (joined (previous direction first)) parts.1;
      no_cell_after = λ d.
          let last : length light - 1 ≡ count = omega arith in
          ap (λ n. joined (get_or light n d)) last ∙ ap joined (get_or-line direction first (count + 1) count d (omega arith)) ∙ stops;
    }

pub all_flat_map : {A B : Type 0} (P : B → Type 0) (f : A → List B) → ((x : A) → All P (f x)) → (xs : List A) → All P (flat_map f xs)
all_flat_map P f each [] = All-nil P
all_flat_map P f each (x ∷ xs) = All-append P (f x) (flat_map f xs) (each x) (all_flat_map P f each xs)

light_from_is : (grid : Grid) (cell : Cell) (direction : Direction) → All (IsLightOf grid) (light_from grid cell direction)
light_from_is grid cell direction =
    elim (begins grid direction cell) as (λ b. begins grid direction cell ≡ b → All (IsLightOf grid) (cond b (light_starting grid direction cell ∷ []) [])) [
      | true ↦ λ begin. All-cons (IsLightOf grid) (light_starting grid direction cell) [] (light_is grid direction cell begin, refl) (All-nil (IsLightOf grid))
      | false ↦ λ _. All-nil (IsLightOf grid)
    ] refl

pub lights_are_lights : LightsAreLights
lights_are_lights grid =
    all_flat_map (IsLightOf grid) (lights_at grid)
    (λ cell. All-append (IsLightOf grid) (light_from grid cell Across) (light_from grid cell Down) (light_from_is grid cell Across) (light_from_is grid cell Down))
    (cells grid)

-- the first cell of a light
abbrev first_of : List Cell → Cell
first_of light = get_or light 0 (record { row = 0; col = 0 })

-- the cells of a light are the steps from its first one
light_steps : (grid : Grid) (direction : Direction) (light : List Cell) → IsLight grid direction light → (k : ℕ) → k < length light → get_or light k (record { row = 0; col = 0 }) ≡ step direction (first_of light) k
light_steps grid direction light is zero within = sym (step-zero direction (first_of light))
light_steps grid direction light is (suc k) within =
    let none : Cell = record { row = 0; col = 0 } in
    let before = light_steps grid direction light is k (omega arith) in
    let plus : k + 1 ≡ suc k = omega arith in
    ap (λ n. get_or light n none) (sym plus) ∙ is.follow k none (omega arith) ∙ ap (next direction) before ∙ sym (step-next direction (first_of light) k) ∙ ap (step direction (first_of light)) plus

pub next-previous : (grid : Grid) (direction : Direction) (cell : Cell) → is_inside grid cell ≡ true → next direction (previous direction cell) ≡ cell
next-previous grid Across cell inside = let at = IsInside-is_inside grid cell inside in ap (λ col. record { row = cell.row; col = col }) (let h : cell.col - 1 + 1 ≡ cell.col = omega (arith, at.col_low) in h)
next-previous grid Down cell inside = let at = IsInside-is_inside grid cell inside in ap (λ row. record { row = row; col = cell.col }) (let h : cell.row - 1 + 1 ≡ cell.row = omega (arith, at.row_low) in h)

-- a light is not longer than its row or column
short : (grid : Grid) (direction : Direction) (first : Cell) (k : ℕ) → is_inside grid first ≡ true → is_joined grid direction (step direction first k) ≡ true → k + 1 ≤ extent grid direction
short grid Across first k inside joined =
    let there = IsInside-is_inside grid (next Across (step Across first k)) (joined_inside grid Across (step Across first k) joined).1 in
    let here = IsInside-is_inside grid first inside in
    omega (arith, there.col_high, here.col_low)
short grid Down first k inside joined =
    let there = IsInside-is_inside grid (next Down (step Down first k)) (joined_inside grid Down (step Down first k) joined).1 in
    let here = IsInside-is_inside grid first inside in
    omega (arith, there.row_high, here.row_low)

-- the light that begins at a light's first cell is that light
light_from_first : (grid : Grid) (direction : Direction) (light : List Cell) → IsLight grid direction light →
    (is_inside grid (first_of light) ≡ true) × (begins grid direction (first_of light) ≡ true) × (line direction (first_of light) (run_from grid direction (first_of light)) ≡ light)
light_from_first grid direction light is =
    let none : Cell = record { row = 0; col = 0 } in
    let first = first_of light in
    let joined = is_joined grid direction in
    let at = light_steps grid direction light is in
    let n = length light in
    let joined_at : (k : ℕ) → k + 1 < n → joined (step direction first k) ≡ true = λ k h. ap joined (sym (at k (omega arith))) ∙ is.joined k none h in
    let begins_joined : joined first ≡ true = is.joined 0 none (omega (arith, is.several)) in
    let inside = (joined_inside grid direction first begins_joined).0 in
    let not_before : joined (previous direction first) ≡ false = is.no_cell_before (previous direction first) none (next-previous grid direction first inside) in
    let begin : begins grid direction first ≡ true = rw (begins_joined, not_before) refl in
    let ends : joined (step direction first (n - 1)) ≡ false = ap joined (sym (at (n - 1) (omega (arith, is.several)))) ∙ is.no_cell_after none in
    let fits : n - 1 ≤ extent grid direction = omega (arith, is.several, short grid direction first (n - 2) inside (joined_at (n - 2) (omega (arith, is.several)))) in
    let run : run_from grid direction first ≡ n - 1 + 1 = run_is grid direction first (n - 1) fits (λ k h. joined_at k (omega arith)) (λ _. ends) in
    let all : run_from grid direction first ≡ n = run ∙ (let h : n - 1 + 1 ≡ n = omega (arith, is.several) in h) in (
      inside,
      begin,
      ap (line direction first) all ∙ same_lists (line direction first n) light (length-line direction first n) (λ k d h.
          let here : k < n = rw (← length-line direction first n) h in
          get_or-line direction first n k d here ∙ sym (at k here) ∙ get_or_default light k none d here),
    )

contains_flat_map : {A B : Type 0} (f : A → List B) (xs : List A) (x : A) (y : B) → Contains xs x → Contains (f x) y → Contains (flat_map f xs) y
contains_flat_map f [] x y (k, h, e) inner = absurd (omega arith)
contains_flat_map f (z ∷ zs) x y (zero, h, e) inner = Contains-append_left (f z) (flat_map f zs) y (subst (λ w. Contains (f w) y) (sym e) inner)
contains_flat_map f (z ∷ zs) x y (suc k, h, e) inner = Contains-append_right (f z) (flat_map f zs) y (contains_flat_map f zs x y (k, omega arith, e) inner)

contains_cell : (grid : Grid) (cell : Cell) → is_inside grid cell ≡ true → Contains (cells grid) cell
contains_cell grid cell inside =
    let index = index_of grid cell in
    let within = index_of-lt grid cell inside in
    (index, omega (arith, length-cells grid), get_or-map-range_with_len (cell_at grid) 0 (grid.width * grid.height) index index cell within (omega arith) ∙ cell_at-index_of grid cell inside)

contains_light : (grid : Grid) (direction : Direction) (cell : Cell) → begins grid direction cell ≡ true → Contains (lights_at grid cell) (light_starting grid direction cell)
contains_light grid Across cell begin =
    Contains-append_left (light_from grid cell Across) (light_from grid cell Down) (light_starting grid Across cell) (rw begin (0, lit< tt, refl))
contains_light grid Down cell begin =
    Contains-append_right (light_from grid cell Across) (light_from grid cell Down) (light_starting grid Down cell) (rw begin (0, lit< tt, refl))

pub lights_are_all : LightsAreAll
lights_are_all grid direction light is =
    let first = first_of light in
    let from = light_from_first grid direction light is in
    (light_starting grid direction first, contains_flat_map (lights_at grid) (cells grid) first (light_starting grid direction first) (contains_cell grid first from.0) (contains_light grid direction first from.1), refl, from.2)

-- each cell of a light is open
pub light_is_open : (grid : Grid) (direction : Direction) (light : List Cell) → IsLight grid direction light → (k : ℕ) (d : Cell) → k < length light → is_open grid (get_or light k d) ≡ true
light_is_open grid direction light is zero d within =
    let joined = is.joined 0 d (omega (arith, is.several)) in
    (and-true (is_open grid (get_or light 0 d)) (is_open grid (next direction (get_or light 0 d))) (and-true (is_open grid (get_or light 0 d) && is_open grid (next direction (get_or light 0 d))) _ joined).0).0
light_is_open grid direction light is (suc k) d within =
    let plus : k + 1 ≡ suc k = omega arith in
    let joined = is.joined k d (omega arith) in
    let here = (and-true (is_open grid (get_or light k d)) (is_open grid (next direction (get_or light k d))) (and-true (is_open grid (get_or light k d) && is_open grid (next direction (get_or light k d))) _ joined).0).1 in
    ap (λ n. is_open grid (get_or light n d)) (sym plus) ∙ ap (is_open grid) (is.follow k d (omega arith)) ∙ here

-- each cell of a listed light is open
pub cells_of_are_open : (grid : Grid) (index : ℕ) (d : Light) → index < length (lights_of grid) → (k : ℕ) → k < (get_or (lights_of grid) index d).size → is_open grid (step (get_or (lights_of grid) index d).name.direction (get_or (lights_of grid) index d).start k) ≡ true
cells_of_are_open grid index d within k below =
    let light = get_or (lights_of grid) index d in
    let cells = line light.name.direction light.start light.size in
    let is = (lights_are_lights grid index d within).0 in
    let long : length cells ≡ light.size = length-line light.name.direction light.start light.size in
    ap (is_open grid) (sym (get_or-line light.name.direction light.start light.size k light.start below))
    ∙ light_is_open grid light.name.direction cells is k light.start (omega arith)

-- a listed light has at least two cells
pub size_of_light : (grid : Grid) (index : ℕ) (d : Light) → index < length (lights_of grid) → 2 ≤ (get_or (lights_of grid) index d).size
size_of_light grid index d within =
    let light = get_or (lights_of grid) index d in
    let is = (lights_are_lights grid index d within).0 in
    omega (arith, is.several, length-line light.name.direction light.start light.size)

-- a light begins where `begins` says so
pub lights_begin : LightsBegin
lights_begin grid direction cell = (
  λ begin.
      let count = run_from grid direction cell in
      let is = light_is grid direction cell begin in
      let some : 0 < count = omega (arith, is.several, length-line direction cell count) in
      (line direction cell count, is, get_or-line direction cell count 0 no_cell some ∙ step-zero direction cell),
  λ found. ap (begins grid direction) (sym found.2) ∙ (light_from_first grid direction found.0 found.1).1,
)
