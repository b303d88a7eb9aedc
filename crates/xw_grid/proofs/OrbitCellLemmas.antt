-- The cells of an orbit in order, and their number.
use Rattle.std.proofs.Common.{◌≡◌, ℕ, zero, suc, ◌+◌, ◌-◌, ◌*◌, ◌<◌, ◌≤◌, Bool, true, false, cond, ◌||◌, eqb, leb, List, [], ◌∷◌, map, length, get_or, refl, ap, sym, ◌∙◌, inl, inr, lit<, arith}
use Rattle.std.specs.Prelude.{All, filter, Some, None, Option, nat_eq}
use Rattle.std.specs.List.{list_any, range_with_len}
use Rattle.std.proofs.lemmas.Bool.{cases_lt, cases_eq, lt-ltb, le-ltb, ne_eqb, eq-eqb}
use Rattle.std.proofs.lemmas.Bool.Decides.{nat_tests}
use Rattle.std.proofs.lemmas.List.{length-map}
use Rattle.std.proofs.lemmas.List.Elements.{All-nil, All-cons}
use Rattle.xw_grid.specs.declared.cell.Cell.{Cell}
use Rattle.xw_grid.specs.declared.cell.Symmetry.{Symmetry}
use Rattle.xw_grid.specs.declared.cell.Symmetry.TheVariants as kinds
use Rattle.xw_grid.specs.Grid.{Grid, IsGrid, is_inside, index_of, cell_at, cell_in, cells}
use Rattle.xw_grid.specs.Orbit.{moved_by, moved, images_of, is_in_orbit, orbit_of, cells_among, nearer, IsLeastFrom, OrbitsAreSmall}
use Rattle.xw_grid.proofs.GridLemmas.{IsInside, IsInside-is_inside, same_cell-cell_at, map-filter}

-- ---- the least index

nearer_least : (from : ℕ) (passes : ℕ → Bool) (index : ℕ) (found : Option ℕ) → IsLeastFrom from passes found → IsLeastFrom from (λ k. eqb k index || passes k) (nearer from index found)
nearer_least from passes index (Some other) h =
    elim (cases_lt index from) [
      | inl before ↦ rw (lt-ltb index from before) (h.0, or_right (eqb other index) (passes other) h.1, λ k low high. rw (ne_eqb k index (λ e. absurd (omega arith)), h.2 k low high) refl)
      | inr on ↦ elim (cases_lt other index) [
        | inl lt ↦ rw (le-ltb index from on, lt-ltb other index lt) (h.0, or_right (eqb other index) (passes other) h.1, λ k low high. rw (ne_eqb k index (λ e. absurd (omega arith)), h.2 k low high) refl)
        | inr le ↦ rw (le-ltb index from on, le-ltb other index le) (on, ap (λ b. b || passes index) (eq-eqb index index refl), λ k low high. rw (ne_eqb k index (λ e. absurd (omega arith)), h.2 k low (omega arith)) refl)
      ]
    ] where
      or_right : (a b : Bool) → b ≡ true → (a || b) ≡ true
      or_right true b h = refl
      or_right false b h = h
nearer_least from passes index None h =
    elim (cases_lt index from) [
      | inl before ↦ rw (lt-ltb index from before) (λ k low. rw (ne_eqb k index (λ e. absurd (omega arith)), h k low) refl)
      | inr on ↦ rw (le-ltb index from on) (on, ap (λ b. b || passes index) (eq-eqb index index refl), λ k low high. rw (ne_eqb k index (λ e. absurd (omega arith)), h k low) refl)
    ]

least_of_four : (from a b c d : ℕ) → IsLeastFrom from (λ index. list_any (nat_eq index) (a ∷ b ∷ c ∷ d ∷ [])) (nearer from a (nearer from b (nearer from c (nearer from d None))))
least_of_four from a b c d =
    nearer_least from (λ k. list_any (nat_eq k) (b ∷ c ∷ d ∷ [])) a (nearer from b (nearer from c (nearer from d None)))
    (nearer_least from (λ k. list_any (nat_eq k) (c ∷ d ∷ [])) b (nearer from c (nearer from d None))
    (nearer_least from (λ k. list_any (nat_eq k) (d ∷ [])) c (nearer from d None)
    (nearer_least from (λ k. false) d None (λ k _. refl))))

pub least_of_list : (from : ℕ) (indices : List ℕ) → length indices ≡ 4 → IsLeastFrom from (λ index. list_any (nat_eq index) indices) (nearer from (get_or indices 0 0) (nearer from (get_or indices 1 0) (nearer from (get_or indices 2 0) (nearer from (get_or indices 3 0) None))))
least_of_list from [] long = absurd (omega arith)
least_of_list from (a ∷ []) long = absurd (omega arith)
least_of_list from (a ∷ b ∷ []) long = absurd (omega arith)
least_of_list from (a ∷ b ∷ c ∷ []) long = absurd (omega arith)
least_of_list from (a ∷ b ∷ c ∷ d ∷ []) long = least_of_four from a b c d
least_of_list from (a ∷ b ∷ c ∷ d ∷ e ∷ rest) long = absurd (omega arith)

-- ---- the numbers of a range that pass a test

filter_none : (p : ℕ → Bool) (n a : ℕ) → ((i : ℕ) → a ≤ i → p i ≡ false) → filter p (range_with_len a n) ≡ []
filter_none p zero a none = refl
filter_none p (suc n) a none = rw (none a (omega arith)) (filter_none p n (a + 1) (λ i low. none i (omega arith)))

filter_from : (p : ℕ → Bool) (index n a : ℕ) → a ≤ index → index < a + n → p index ≡ true → ((i : ℕ) → a ≤ i → i < index → p i ≡ false) → filter p (range_with_len a n) ≡ index ∷ filter p (range_with_len (index + 1) (a + n - (index + 1)))
filter_from p index zero a low high here none = absurd (omega arith)
filter_from p index (suc n) a low high here none =
    elim (cases_eq a index) [
      | inl same ↦
          let passes : p a ≡ true = ap p same ∙ here in
          let e : n ≡ a + suc n - (index + 1) = omega arith in
          rw passes (ap (λ k. k ∷ filter p (range_with_len (k + 1) n)) same ∙ ap (λ m. index ∷ filter p (range_with_len (index + 1) m)) e)
      | inr apart ↦
          let e : a + 1 + n - (index + 1) ≡ a + suc n - (index + 1) = omega arith in
          rw (none a (omega arith) (omega (arith, apart))) (filter_from p index n (a + 1) (omega (arith, apart)) (omega arith) here (λ i l h. none i (omega arith) h) ∙ ap (λ m. index ∷ filter p (range_with_len (index + 1) m)) e)
    ]

-- ---- the remaining cells

list_any_bound : (squares : List ℕ) (end index : ℕ) → All (λ square. square < end) squares → list_any (nat_eq index) squares ≡ true → index < end
list_any_bound [] end index all h = cc
list_any_bound (s ∷ ss) end index all h =
    elim (cases_eq index s) [
      | inl same ↦ let first : s < end = all 0 s (omega arith) in omega arith
      | inr apart ↦ list_any_bound ss end index (λ k d within. all (suc k) d (omega arith)) (ap (λ b. b || list_any (nat_eq index) ss) (sym (ne_eqb index s apart)) ∙ h)
    ]

pub left_first : (width : ℕ) (squares : List ℕ) (from end index : ℕ) → All (λ square. square < end) squares → IsLeastFrom from (λ k. list_any (nat_eq k) squares) (Some index) → cells_among width squares from end ≡ cell_in width index ∷ cells_among width squares (index + 1) end
left_first width squares from end index all least =
    let below = list_any_bound squares end index all least.1 in
    let e : from + (end - from) - (index + 1) ≡ end - (index + 1) = omega (arith, least.0) in
    ap (map (cell_in width)) (filter_from (λ k. list_any (nat_eq k) squares) index (end - from) from least.0 (omega (arith, least.0)) least.1 least.2)
    ∙ ap (λ m. cell_in width index ∷ map (cell_in width) (filter (λ k. list_any (nat_eq k) squares) (range_with_len (index + 1) m))) e

pub left_small : (squares : List ℕ) (from end index : ℕ) → All (λ square. square < end) squares → IsLeastFrom from (λ k. list_any (nat_eq k) squares) (Some index) → index < end
left_small squares from end index all least = list_any_bound squares end index all least.1

pub left_none : (width : ℕ) (squares : List ℕ) (from end : ℕ) → IsLeastFrom from (λ k. list_any (nat_eq k) squares) None → cells_among width squares from end ≡ []
left_none width squares from end none = ap (map (cell_in width)) (filter_none (λ k. list_any (nat_eq k) squares) (end - from) from none)

pub left_end : (width : ℕ) (squares : List ℕ) (end : ℕ) → cells_among width squares end end ≡ []
left_end width squares end = let e : end - end ≡ 0 = omega arith in ap (λ m. map (cell_in width) (filter (λ k. list_any (nat_eq k) squares) (range_with_len end m))) e

-- the indices of the images determine the orbit
pub left_all : (grid : Grid) (cell : Cell) → is_inside grid cell ≡ true → All (λ image. is_inside grid image ≡ true) (images_of grid cell) → cells_among grid.width (map (index_of grid) (images_of grid cell)) 0 (grid.width * grid.height) ≡ orbit_of grid cell
left_all grid cell inside all =
    let once = moved grid cell in
    let twice = moved grid once in
    let thrice = moved grid twice in
    let n = grid.width * grid.height in
    let size : n - 0 ≡ n = omega arith in
    let test : (k : ℕ) → list_any (nat_eq k) (map (index_of grid) (images_of grid cell)) ≡ is_in_orbit grid cell (cell_at grid k) =
    λ k. rw (same_cell-cell_at grid k cell inside, same_cell-cell_at grid k once (all 1 cell (lit< tt)), same_cell-cell_at grid k twice (all 2 cell (lit< tt)), same_cell-cell_at grid k thrice (all 3 cell (lit< tt))) refl in
    ap (λ m. map (cell_at grid) (filter (λ k. list_any (nat_eq k) (map (index_of grid) (images_of grid cell))) (range_with_len 0 m))) size
    ∙ ap (λ (p : ℕ → Bool). map (cell_at grid) (filter p (range_with_len 0 n))) (λ i k. test k i)
    ∙ map-filter (cell_at grid) (is_in_orbit grid cell) (range_with_len 0 n)
    ∙ ap (λ b. cond b (filter (is_in_orbit grid cell) (cells grid)) []) (sym inside)

-- ---- the number of cells

one_at_most : (s n a : ℕ) → length (filter (λ k. eqb k s) (range_with_len a n)) ≤ 1
one_at_most s zero a = omega arith
one_at_most s (suc n) a =
    elim (cases_eq a s) [
      | inl same ↦ rw (eq-eqb a s same, filter_none (λ k. eqb k s) n (a + 1) (λ k low. ne_eqb k s (λ e. absurd (omega arith)))) (omega arith)
      | inr apart ↦ rw (ne_eqb a s apart) (one_at_most s n (a + 1))
    ]

filter_either : (p q : ℕ → Bool) (xs : List ℕ) → length (filter (λ k. p k || q k) xs) ≤ length (filter p xs) + length (filter q xs)
filter_either p q [] = omega arith
filter_either p q (x ∷ xs) =
    elim (p x) as (λ b. length (cond (b || q x) (x ∷ filter (λ k. p k || q k) xs) (filter (λ k. p k || q k) xs)) ≤ length (cond b (x ∷ filter p xs) (filter p xs)) + length (cond (q x) (x ∷ filter q xs) (filter q xs))) [
      | true ↦ elim (q x) as (λ b. suc (length (filter (λ k. p k || q k) xs)) ≤ suc (length (filter p xs)) + length (cond b (x ∷ filter q xs) (filter q xs))) [
        | true ↦ omega (arith, filter_either p q xs)
        | false ↦ omega (arith, filter_either p q xs)
      ]
      | false ↦ elim (q x) as (λ b. length (cond b (x ∷ filter (λ k. p k || q k) xs) (filter (λ k. p k || q k) xs)) ≤ length (filter p xs) + length (cond b (x ∷ filter q xs) (filter q xs))) [
        | true ↦ omega (arith, filter_either p q xs)
        | false ↦ omega (arith, filter_either p q xs)
      ]
    ]

among_few : (squares : List ℕ) (n a : ℕ) → length (filter (λ k. list_any (nat_eq k) squares) (range_with_len a n)) ≤ length squares
among_few [] n a = let none : filter (λ (k : ℕ). false) (range_with_len a n) ≡ [] = filter_none (λ k. false) n a (λ i low. refl) in omega (arith, ap (λ xs. length xs) none)
among_few (s ∷ ss) n a =
    omega (arith, filter_either (λ k. eqb k s) (λ k. list_any (nat_eq k) ss) (range_with_len a n), one_at_most s n a, among_few ss n a)

-- ---- images stay inside the grid

inside_from : (grid : Grid) (cell : Cell) → IsInside grid cell → is_inside grid cell ≡ true
inside_from grid cell at =
    let a : leb 1 cell.row ≡ true = grind (arith, nat_tests, at.row_low) in
    let b : leb cell.row grid.height ≡ true = grind (arith, nat_tests, at.row_high) in
    let c : leb 1 cell.col ≡ true = grind (arith, nat_tests, at.col_low) in
    let d : leb cell.col grid.width ≡ true = grind (arith, nat_tests, at.col_high) in
    rw (a, b, c, d) refl

moved_inside_by : (kind : Symmetry) (grid : Grid) (cell : Cell) → IsInside grid cell → (kind ≡ kinds.Quarter → grid.width ≡ grid.height) → IsInside grid (moved_by kind grid.width grid.height cell)
moved_inside_by kinds.None grid cell at turned = at
moved_inside_by kinds.Half grid cell at turned = record { row_low = omega (arith, at.row_high); row_high = omega (arith, at.row_low); col_low = omega (arith, at.col_high); col_high = omega (arith, at.col_low) }
moved_inside_by kinds.Quarter grid cell at turned =
    let square : grid.width ≡ grid.height = turned refl in
    record { row_low = at.col_low; row_high = omega (arith, at.col_high, square); col_low = omega (arith, at.row_high, square); col_high = omega (arith, at.row_low) }
moved_inside_by kinds.LeftRight grid cell at turned = record { row_low = at.row_low; row_high = at.row_high; col_low = omega (arith, at.col_high); col_high = omega (arith, at.col_low) }
moved_inside_by kinds.UpDown grid cell at turned = record { row_low = omega (arith, at.row_high); row_high = omega (arith, at.row_low); col_low = at.col_low; col_high = at.col_high }

pub moved_inside : (grid : Grid) (cell : Cell) → IsGrid grid → is_inside grid cell ≡ true → is_inside grid (moved grid cell) ≡ true
moved_inside grid cell is inside = inside_from grid (moved grid cell) (moved_inside_by grid.symmetry grid cell (IsInside-is_inside grid cell inside) is.turned)

pub images_inside : (grid : Grid) (cell : Cell) → IsGrid grid → is_inside grid cell ≡ true → All (λ image. is_inside grid image ≡ true) (images_of grid cell)
images_inside grid cell is inside =
    let first = moved_inside grid cell is inside in
    let second = moved_inside grid (moved grid cell) is first in
    let third = moved_inside grid (moved grid (moved grid cell)) is second in
    let P = λ (image : Cell). is_inside grid image ≡ true in
    let m = moved grid in
    All-cons P cell (m cell ∷ m (m cell) ∷ m (m (m cell)) ∷ []) inside
    (All-cons P (m cell) (m (m cell) ∷ m (m (m cell)) ∷ []) first
    (All-cons P (m (m cell)) (m (m (m cell)) ∷ []) second
    (All-cons P (m (m (m cell))) [] third (All-nil P))))

pub orbits_are_small : OrbitsAreSmall
orbits_are_small grid cell is =
    elim (is_inside grid cell) as (λ b. is_inside grid cell ≡ b → length (cond b (filter (is_in_orbit grid cell) (cells grid)) []) ≤ 4) [
      | true ↦ λ inside.
          let squares = map (index_of grid) (images_of grid cell) in
          let all = left_all grid cell inside (images_inside grid cell is inside) in
          let same : length (filter (is_in_orbit grid cell) (cells grid)) ≡ length (cells_among grid.width squares 0 (grid.width * grid.height)) = ap (λ b. length (cond b (filter (is_in_orbit grid cell) (cells grid)) [])) (sym inside) ∙ ap (λ xs. length xs) (sym all) in
          let few = among_few squares (grid.width * grid.height - 0) 0 in
          let counted = length-map (filter (λ k. list_any (nat_eq k) squares) (range_with_len 0 (grid.width * grid.height - 0))) (cell_in grid.width) in
          omega (arith, same, few, counted)
      | false ↦ λ _. omega arith
    ] refl
