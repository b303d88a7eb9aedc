-- Which cells lights pass through, and finding lights.
use Rattle.std.proofs.Common.{◌≡◌, ℕ, ◌+◌, ◌-◌, ◌<◌, ◌≤◌, Bool, true, false, cond, ◌&&◌, ◌||◌, eqb, leb, ltb, List, length, get_or, set, refl, ap, sym, subst, ◌∙◌, inl, inr, arith}
use Rattle.std.specs.Prelude.{Some, None, Option, position}
use Rattle.std.specs.Option.{unwrap_or}
use Rattle.std.proofs.lemmas.Bool.{false≢true, cases_lt, cases_eq, both_ways, lt-ltb, le-ltb, eq-eqb, ne_eqb}
use Rattle.std.proofs.lemmas.Bool.Decides.{nat_tests}
use Rattle.xw_text.proofs.Position.{position_is_some, position_is_none}
use Rattle.xw_grid.specs.declared.cell.Cell.{Cell}
use Rattle.xw_grid.specs.declared.cell.Direction.{Direction}
use Rattle.xw_grid.specs.declared.cell.Direction.TheVariants.{Across, Down}
use Rattle.xw_grid.specs.declared.lights.Light.{Light}
use Rattle.xw_grid.specs.Grid.{Grid, IsGrid, is_inside, index_of, cell_at, same_cell}
use Rattle.xw_grid.specs.Light.{step, lights_of, same_direction, is_within, is_on_line, holds, passes, index_through}
use Rattle.xw_grid.specs.LightTable.{IsLightTable, entry_for, IsFirstOf}
use Rattle.xw_grid.proofs.GridLemmas.{and-true, index_of-lt, cell_at-index_of, same_cell-cell_at, get_set, IsInside-is_inside}
use Rattle.xw_grid.proofs.LightLemmas.{inside_from_open, cells_of_are_open}
use Rattle.xw_grid.specs.LightLaws.{AreApart}

-- ---- the first number that passes

pub first_more : (passes : ℕ → Bool) (n : ℕ) (found : Option ℕ) → IsFirstOf passes n found → IsFirstOf passes (n + 1) (cond (passes n) (Some (unwrap_or found n)) found)
first_more passes n (Some i) h =
    elim (passes n) as (λ b. IsFirstOf passes (n + 1) (cond b (Some i) (Some i))) [
      | true ↦ (omega (arith, h.0), h.1, h.2)
      | false ↦ (omega (arith, h.0), h.1, h.2)
    ]
first_more passes n None h =
    elim (passes n) as (λ b. passes n ≡ b → IsFirstOf passes (n + 1) (cond b (Some n) None)) [
      | true ↦ λ here. (omega arith, here, h)
      | false ↦ λ not_here k below. elim (cases_lt k n) [
        | inl lt ↦ h k lt
        | inr le ↦ ap passes (let e : k ≡ n = omega arith in e) ∙ not_here
      ]
    ] refl

pub first_is : {X : Type 0} (p : X → Bool) (xs : List X) (d : X) (found : Option ℕ) → IsFirstOf (λ i. p (get_or xs i d)) (length xs) found → found ≡ position p xs
first_is p xs d (Some i) h = sym (position_is_some p xs i d h.0 h.2 h.1)
first_is p xs d None h = sym (position_is_none p xs d h)

-- ---- cells on a line

pub held_step : (direction : Direction) (first : Cell) (n : ℕ) (cell : Cell) → is_on_line direction first n cell ≡ true → (k : ℕ) × (k < n) × (cell ≡ step direction first k)
held_step Across first n cell h =
    let both = and-true (eqb cell.row first.row) (is_within first.col n cell.col) h in
    let parts = and-true (leb first.col cell.col) (ltb (cell.col - first.col) n) both.1 in
    let row : cell.row ≡ first.row = grind (arith, nat_tests, both.0) in
    let low : first.col ≤ cell.col = grind (arith, nat_tests, parts.0) in
    let high : cell.col - first.col < n = grind (arith, nat_tests, parts.1) in
    (cell.col - first.col, high, ap (λ r. record { row = r; col = cell.col }) row ∙ ap (λ c. record { row = first.row; col = c }) (let e : cell.col ≡ first.col + (cell.col - first.col) = omega arith in e))
held_step Down first n cell h =
    let both = and-true (eqb cell.col first.col) (is_within first.row n cell.row) h in
    let parts = and-true (leb first.row cell.row) (ltb (cell.row - first.row) n) both.1 in
    let col : cell.col ≡ first.col = grind (arith, nat_tests, both.0) in
    let low : first.row ≤ cell.row = grind (arith, nat_tests, parts.0) in
    let high : cell.row - first.row < n = grind (arith, nat_tests, parts.1) in
    (cell.row - first.row, high, ap (λ c. record { row = cell.row; col = c }) col ∙ ap (λ r. record { row = r; col = first.col }) (let e : cell.row ≡ first.row + (cell.row - first.row) = omega arith in e))

within_none : (first number : ℕ) → is_within first 0 number ≡ false
within_none first number = elim (leb first number) as (λ b. (b && ltb (number - first) 0) ≡ false) [ true ↦ le-ltb (number - first) 0 (omega arith) | false ↦ refl ]

pub line_none : (direction : Direction) (first cell : Cell) → is_on_line direction first 0 cell ≡ false
line_none Across first cell = ap (λ b. eqb cell.row first.row && b) (within_none first.col cell.col) ∙ (elim (eqb cell.row first.row) as (λ b. (b && false) ≡ false) [ true ↦ refl | false ↦ refl ])
line_none Down first cell = ap (λ b. eqb cell.col first.col && b) (within_none first.row cell.row) ∙ (elim (eqb cell.col first.col) as (λ b. (b && false) ≡ false) [ true ↦ refl | false ↦ refl ])

within_more : (first n number : ℕ) → is_within first (n + 1) number ≡ (eqb number (first + n) || is_within first n number)
within_more first n number =
    elim (cases_eq number (first + n)) [
      | inl same ↦
          let low : leb first number ≡ true = grind (arith, nat_tests) in
          let high : ltb (number - first) (n + 1) ≡ true = lt-ltb (number - first) (n + 1) (omega arith) in
          rw (low, high, eq-eqb number (first + n) same) refl
      | inr apart ↦
          rw (ne_eqb number (first + n) apart) (elim (cases_lt number first) [
            | inl before ↦ let low : leb first number ≡ false = grind (arith, nat_tests) in rw low refl
            | inr from ↦ elim (cases_lt (number - first) n) [
              | inl lt ↦ rw (lt-ltb (number - first) n lt, lt-ltb (number - first) (n + 1) (omega arith)) refl
              | inr le ↦ rw (le-ltb (number - first) n le, le-ltb (number - first) (n + 1) (omega (arith, apart))) refl
            ]
          ])
    ]

and_or : (a b c : Bool) → (a && (b || c)) ≡ ((a && b) || (a && c))
and_or true b c = refl
and_or false b c = refl

and_comm : (a b : Bool) → (a && b) ≡ (b && a)
and_comm true true = refl
and_comm true false = refl
and_comm false true = refl
and_comm false false = refl

pub line_more : (direction : Direction) (first : Cell) (n : ℕ) (cell : Cell) → is_on_line direction first (n + 1) cell ≡ (same_cell cell (step direction first n) || is_on_line direction first n cell)
line_more Across first n cell =
    ap (λ b. eqb cell.row first.row && b) (within_more first.col n cell.col)
    ∙ and_or (eqb cell.row first.row) (eqb cell.col (first.col + n)) (is_within first.col n cell.col)
line_more Down first n cell =
    ap (λ b. eqb cell.col first.col && b) (within_more first.row n cell.row)
    ∙ and_or (eqb cell.col first.col) (eqb cell.row (first.row + n)) (is_within first.row n cell.row)
    ∙ ap (λ b. b || (eqb cell.col first.col && is_within first.row n cell.row)) (and_comm (eqb cell.col first.col) (eqb cell.row (first.row + n)))

-- ---- filling a table

entered : (hit on : Bool) (old now : Option ℕ) (index : ℕ) → now ≡ cond on (Some (unwrap_or old index)) old → cond hit (Some (unwrap_or now index)) now ≡ cond (hit || on) (Some (unwrap_or old index)) old
entered true true old now index e = ap (λ o. Some (unwrap_or o index)) e
entered true false old now index e = ap (λ o. Some (unwrap_or o index)) e
entered false true old now index e = e
entered false false old now index e = e

-- one more cell of a light is entered
pub entered_more : (grid : Grid) (old now : List (Option ℕ)) (direction : Direction) (first : Cell) (n index s : ℕ) → s < length now → is_inside grid (step direction first n) ≡ true →
    get_or now s None ≡ cond (is_on_line direction first n (cell_at grid s)) (Some (unwrap_or (get_or old s None) index)) (get_or old s None) →
    get_or (set now (index_of grid (step direction first n)) (Some (unwrap_or (get_or now (index_of grid (step direction first n)) None) index))) s None
    ≡ cond (is_on_line direction first (n + 1) (cell_at grid s)) (Some (unwrap_or (get_or old s None) index)) (get_or old s None)
entered_more grid old now direction first n index s within inside e =
    let square = index_of grid (step direction first n) in
    let hit = eqb s square in
    get_set now square (Some (unwrap_or (get_or now square None) index)) s None within
    ∙ (elim (cases_eq s square) [
      | inl same ↦ ap (λ k. cond hit (Some (unwrap_or (get_or now k None) index)) (get_or now s None)) (sym same)
      | inr apart ↦ rw (ne_eqb s square apart) refl
    ])
    ∙ entered hit (is_on_line direction first n (cell_at grid s)) (get_or old s None) (get_or now s None) index e
    ∙ ap (λ b. cond (b || is_on_line direction first n (cell_at grid s)) (Some (unwrap_or (get_or old s None) index)) (get_or old s None)) (sym (same_cell-cell_at grid s (step direction first n) inside))
    ∙ ap (λ b. cond b (Some (unwrap_or (get_or old s None) index)) (get_or old s None)) (sym (line_more direction first n (cell_at grid s)))

-- a line inside a grid is short
pub line_small : (grid : Grid) (direction : Direction) (first : Cell) (k : ℕ) → IsGrid grid → is_inside grid (step direction first k) ≡ true → (first.row ≤ 255) × (first.col ≤ 255) × (k ≤ 255)
line_small grid Across first k is inside =
    let at = IsInside-is_inside grid (step Across first k) inside in
    (omega (arith, is.high, at.row_high), omega (arith, is.wide, at.col_high), omega (arith, is.wide, at.col_high))
line_small grid Down first k is inside =
    let at = IsInside-is_inside grid (step Down first k) inside in
    (omega (arith, is.high, at.row_high), omega (arith, is.wide, at.col_high), omega (arith, is.high, at.row_high))

-- ---- lights through a cell

pub direction_is : (a b : Direction) → same_direction a b ≡ true → a ≡ b
direction_is Across Across h = refl
direction_is Across Down h = absurd (false≢true h)
direction_is Down Across h = absurd (false≢true h)
direction_is Down Down h = refl

pub light_inside : (grid : Grid) (index : ℕ) (d : Light) → index < length (lights_of grid) → (k : ℕ) → k < (get_or (lights_of grid) index d).size → is_inside grid (step (get_or (lights_of grid) index d).name.direction (get_or (lights_of grid) index d).start k) ≡ true
light_inside grid index d within k below = inside_from_open grid _ (cells_of_are_open grid index d within k below)

-- the cells of each light are inside the grid, for a list that equals the grid's lights
pub lights_inside : (grid : Grid) (lights : List Light) → lights ≡ lights_of grid → (index : ℕ) (d : Light) → index < length lights → (k : ℕ) → k < (get_or lights index d).size → is_inside grid (step (get_or lights index d).name.direction (get_or lights index d).start k) ≡ true
lights_inside grid lights same =
    subst (λ lights. (index : ℕ) (d : Light) → index < length lights → (k : ℕ) → k < (get_or lights index d).size → is_inside grid (step (get_or lights index d).name.direction (get_or lights index d).start k) ≡ true) (sym same) (light_inside grid)

pub passes_inside : (grid : Grid) (direction : Direction) (cell : Cell) (index : ℕ) (d : Light) → index < length (lights_of grid) → passes direction cell (get_or (lights_of grid) index d) ≡ true → is_inside grid cell ≡ true
passes_inside grid direction cell index d within h =
    let light = get_or (lights_of grid) index d in
    let both = and-true (same_direction light.name.direction direction) (holds light cell) h in
    let at = held_step light.name.direction light.start light.size cell both.1 in
    ap (is_inside grid) at.2 ∙ light_inside grid index d within at.0 at.1

-- at most one light in a direction passes through a cell
pub index_is : (lights : List Light) → AreApart lights → (direction : Direction) (cell : Cell) (index : ℕ) (d : Light) → index < length lights → passes direction cell (get_or lights index d) ≡ true → index_through lights direction cell ≡ Some index
index_is lights apart direction cell index d within h =
    let tested = λ (i : ℕ). and-true (same_direction (get_or lights i d).name.direction direction) (holds (get_or lights i d) cell) in
    position_is_some (passes direction cell) lights index d within (λ k lt.
    elim (passes direction cell (get_or lights k d)) as (λ b. passes direction cell (get_or lights k d) ≡ b → b ≡ false) [
      | true ↦ λ there.
          let one = tested k there in
          let two = tested index h in
          let at_one = held_step (get_or lights k d).name.direction (get_or lights k d).start (get_or lights k d).size cell one.1 in
          let at_two = held_step (get_or lights index d).name.direction (get_or lights index d).start (get_or lights index d).size cell two.1 in
          let same : k ≡ index = apart k index d at_one.0 at_two.0 (omega arith) within (direction_is _ direction one.0 ∙ sym (direction_is _ direction two.0)) at_one.1 at_two.1 (sym at_one.2 ∙ at_two.2) in
          absurd (omega arith)
      | false ↦ λ _. refl
    ] refl) h

-- the table's entry for a cell is the index of the light through it
pub table_right : (grid : Grid) (direction : Direction) (table : List (Option ℕ)) (cell : Cell) (d : Light) → IsLightTable grid (lights_of grid) direction table → entry_for grid.width grid.height table cell ≡ index_through (lights_of grid) direction cell
table_right grid direction table cell d are =
    elim (is_inside grid cell) as (λ b. is_inside grid cell ≡ b → cond b (get_or table (index_of grid cell) None) None ≡ index_through (lights_of grid) direction cell) [
      | true ↦ λ inside. are.each (index_of grid cell) (index_of-lt grid cell inside) ∙ ap (index_through (lights_of grid) direction) (cell_at-index_of grid cell inside)
      | false ↦ λ outside. sym (position_is_none (passes direction cell) (lights_of grid) d (λ k within.
          elim (passes direction cell (get_or (lights_of grid) k d)) as (λ b. passes direction cell (get_or (lights_of grid) k d) ≡ b → b ≡ false) [
            | true ↦ λ h. absurd (both_ways (is_inside grid cell) outside (passes_inside grid direction cell k d within h))
            | false ↦ λ _. refl
          ] refl))
    ] refl
