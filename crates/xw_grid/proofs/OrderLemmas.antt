-- The order of the lights. No two lights of the same direction share a cell.
use Rattle.std.proofs.Common.{◌≡◌, ℕ, zero, suc, ◌+◌, ◌-◌, ◌*◌, ◌<◌, ◌≤◌, Bool, true, false, cond, not, ◌||◌, List, [], ◌∷◌, ◌++◌, map, length, get_or, take, refl, ap, sym, subst, ◌∙◌, inl, inr, ◌⊎◌, arith}
use Rattle.std.specs.Prelude.{All, flat_map, count_by}
use Rattle.std.specs.List.{range_with_len}
use Rattle.std.proofs.lemmas.Bool.{cases_lt, both_ways}
use Rattle.std.proofs.lemmas.List.Elements.{All-nil, All-cons, All-append}
use Rattle.xw_grid.specs.declared.cell.Cell.{Cell}
use Rattle.xw_grid.specs.declared.cell.Direction.{Direction}
use Rattle.xw_grid.specs.declared.cell.Direction.TheVariants.{Across, Down}
use Rattle.xw_grid.specs.declared.lights.Light.{Light}
use Rattle.xw_grid.specs.Grid.{Grid, is_inside, index_of, cells, cell_at}
use Rattle.xw_grid.specs.Light.{is_joined, previous, step, begins, begins_some, number_at, run_from, light_from, light_starting, lights_at, lights_of}
use Rattle.xw_grid.specs.LightLaws.{LightsAreOrdered, LightsAreApart, LightsMeetOnce, IsBefore}
use Rattle.xw_grid.proofs.GridLemmas.{and-true, index_of-lt, index_of-cell_at, cell_at-index_of, count_by-cells}
use Rattle.xw_grid.proofs.LightLemmas.{all_flat_map, joined_inside, light_is, step-next, step-zero, previous-next, not_true, length-line, get_or-line}

-- ---- numbers that increase along a list

module _ {X : Type 0} (key : X → ℕ) where
  abbrev Rises : ℕ → List X → Type 0
  Rises low [] = Unit {0}
  Rises low (x ∷ xs) = (low ≤ key x) × Rises (key x + 1) xs

  rises_lower : (low high : ℕ) (xs : List X) → low ≤ high → Rises high xs → Rises low xs
  rises_lower low high [] le h = tt
  rises_lower low high (x ∷ xs) le h = (omega (arith, h.0), h.1)

  rises_from : (low : ℕ) (xs : List X) (i : ℕ) (d : X) → Rises low xs → i < length xs → low ≤ key (get_or xs i d)
  rises_from low [] i d h within = absurd (omega arith)
  rises_from low (x ∷ xs) zero d h within = h.0
  rises_from low (x ∷ xs) (suc i) d h within = omega (arith, h.0, rises_from (key x + 1) xs i d h.1 (omega arith))

  rises_pair : (low : ℕ) (xs : List X) (i j : ℕ) (d : X) → Rises low xs → i < j → j < length xs → key (get_or xs i d) < key (get_or xs j d)
  rises_pair low [] i j d h lt within = absurd (omega arith)
  rises_pair low (x ∷ xs) i zero d h lt within = absurd (omega arith)
  rises_pair low (x ∷ xs) zero (suc j) d h lt within = omega (arith, rises_from (key x + 1) xs j d h.1 (omega arith))
  rises_pair low (x ∷ xs) (suc i) (suc j) d h lt within = rises_pair (key x + 1) xs i j d h.1 (omega arith) (omega arith)

-- ---- where the lights begin

-- a listed light is the one that begins at its first cell
pub record IsMade (grid : Grid) (light : Light) : Type 0 where
  pub begins : begins grid light.name.direction light.start ≡ true
  pub is : light ≡ light_starting grid light.name.direction light.start

light_from_made : (grid : Grid) (cell : Cell) (direction : Direction) → All (IsMade grid) (light_from grid cell direction)
light_from_made grid cell direction =
    elim (begins grid direction cell) as (λ b. begins grid direction cell ≡ b → All (IsMade grid) (cond b (light_starting grid direction cell ∷ []) [])) [
      | true ↦ λ begin. All-cons (IsMade grid) (light_starting grid direction cell) [] (record { begins = begin; is = refl }) (All-nil (IsMade grid))
      | false ↦ λ _. All-nil (IsMade grid)
    ] refl

pub lights_are_made : (grid : Grid) → All (IsMade grid) (lights_of grid)
lights_are_made grid =
    all_flat_map (IsMade grid) (lights_at grid)
    (λ cell. All-append (IsMade grid) (light_from grid cell Across) (light_from grid cell Down) (light_from_made grid cell Across) (light_from_made grid cell Down))
    (cells grid)

abbrev pub part : Direction → ℕ
part Across = 0
part Down = 1

-- the order key: twice the index of the first cell, plus one for a down light
abbrev pub key : Grid → Light → ℕ
key grid light = 2 * index_of grid light.start + part light.name.direction

lights_at_rise : (grid : Grid) (k : ℕ) (rest : List Light) → Rises (key grid) (2 * k + 2) rest → Rises (key grid) (2 * k) (lights_at grid (cell_at grid k) ++ rest)
lights_at_rise grid k rest h =
    let cell = cell_at grid k in
    let at : index_of grid cell ≡ k = index_of-cell_at grid k in
    let lower : (low : ℕ) → low ≤ 2 * k + 2 → Rises (key grid) low rest = λ low le. rises_lower (key grid) low (2 * k + 2) rest le h in
    elim (begins grid Across cell) as (λ a. Rises (key grid) (2 * k) ((cond a (light_starting grid Across cell ∷ []) [] ++ light_from grid cell Down) ++ rest)) [
      | true ↦ elim (begins grid Down cell) as (λ b. Rises (key grid) (2 * k) ((light_starting grid Across cell ∷ [] ++ cond b (light_starting grid Down cell ∷ []) []) ++ rest)) [
        | true ↦ (omega (arith, at), (omega (arith, at), lower (key grid (light_starting grid Down cell) + 1) (omega (arith, at))))
        | false ↦ (omega (arith, at), lower (key grid (light_starting grid Across cell) + 1) (omega (arith, at)))
      ]
      | false ↦ elim (begins grid Down cell) as (λ b. Rises (key grid) (2 * k) (([] ++ cond b (light_starting grid Down cell ∷ []) []) ++ rest)) [
        | true ↦ (omega (arith, at), lower (key grid (light_starting grid Down cell) + 1) (omega (arith, at)))
        | false ↦ lower (2 * k) (omega arith)
      ]
    ]

lights_rise_from : (grid : Grid) (n a : ℕ) → Rises (key grid) (2 * a) (flat_map (lights_at grid) (map (cell_at grid) (range_with_len a n)))
lights_rise_from grid zero a = tt
lights_rise_from grid (suc n) a =
    let rest = flat_map (lights_at grid) (map (cell_at grid) (range_with_len (a + 1) n)) in
    lights_at_rise grid a rest (rises_lower (key grid) (2 * a + 2) (2 * (a + 1)) rest (omega arith) (lights_rise_from grid n (a + 1)))

pub keys_rise : (grid : Grid) (i j : ℕ) (d : Light) → i < j → j < length (lights_of grid) → key grid (get_or (lights_of grid) i d) < key grid (get_or (lights_of grid) j d)
keys_rise grid i j d lt within = rises_pair (key grid) 0 (lights_of grid) i j d (lights_rise_from grid (grid.width * grid.height) 0) lt within

-- ---- names

counts_grow : (grid : Grid) (p : Cell → Bool) (k n : ℕ) → k + n ≤ grid.width * grid.height → count_by p (take k (cells grid)) ≤ count_by p (take (k + n) (cells grid))
counts_grow grid p k zero within = let e : k + 0 ≡ k = omega arith in rw e (omega arith)
counts_grow grid p k (suc n) within =
    let e : k + suc n ≡ k + n + 1 = omega arith in
    rw (e, count_by-cells grid p (k + n) (omega arith)) (omega (arith, counts_grow grid p k n (omega arith)))

-- after a cell that begins a light, the numbers are greater
pub numbers_rise : (grid : Grid) (k m : ℕ) → k < m → m ≤ grid.width * grid.height → begins_some grid (cell_at grid k) ≡ true → count_by (begins_some grid) (take k (cells grid)) < count_by (begins_some grid) (take m (cells grid))
numbers_rise grid k m lt within begin =
    let e : m ≡ k + 1 + (m - (k + 1)) = omega arith in
    let grown = counts_grow grid (begins_some grid) (k + 1) (m - (k + 1)) (omega arith) in
    let here : count_by (begins_some grid) (take (k + 1) (cells grid)) ≡ count_by (begins_some grid) (take k (cells grid)) + 1 =
    count_by-cells grid (begins_some grid) k (omega arith) ∙ ap (λ b. count_by (begins_some grid) (take k (cells grid)) + cond b 1 0) begin in
    rw e (omega (arith, here, grown))

or_left : (a b : Bool) → a ≡ true → (a || b) ≡ true
or_left a b h = ap (λ x. x || b) h

or_right : (a b : Bool) → b ≡ true → (a || b) ≡ true
or_right true b h = refl
or_right false b h = h

begins_one : (grid : Grid) (direction : Direction) (cell : Cell) → begins grid direction cell ≡ true → begins_some grid cell ≡ true
begins_one grid Across cell h = or_left (begins grid Across cell) (begins grid Down cell) h
begins_one grid Down cell h = or_right (begins grid Across cell) (begins grid Down cell) h

-- the first cell of a light is inside the grid
pub made_inside : (grid : Grid) (light : Light) → IsMade grid light → is_inside grid light.start ≡ true
made_inside grid light made = (joined_inside grid light.name.direction light.start (and-true (is_joined grid light.name.direction light.start) _ made.begins).0).0

pub made_number : (grid : Grid) (light : Light) → IsMade grid light → light.name.number ≡ number_at grid light.start
made_number grid light made = ap (λ (l : Light). l.name.number) made.is

pub made_size : (grid : Grid) (light : Light) → IsMade grid light → light.size ≡ run_from grid light.name.direction light.start
made_size grid light made = ap (λ (l : Light). l.size) made.is

same_starts : (grid : Grid) (a b : Cell) → is_inside grid a ≡ true → is_inside grid b ≡ true → index_of grid a ≡ index_of grid b → a ≡ b
same_starts grid a b in_a in_b e = sym (cell_at-index_of grid a in_a) ∙ ap (cell_at grid) e ∙ cell_at-index_of grid b in_b

across_part : (direction other : Direction) → part direction < part other → (direction ≡ Across) × (other ≡ Down)
across_part Across Across h = absurd (omega arith)
across_part Across Down h = (refl, refl)
across_part Down Across h = absurd (omega arith)
across_part Down Down h = absurd (omega arith)

pub part_small : (direction : Direction) → part direction ≤ 1
part_small Across = omega arith
part_small Down = omega arith

names_by_keys : (grid : Grid) (a b : Light) → IsMade grid a → IsMade grid b → key grid a < key grid b → IsBefore a.name b.name
names_by_keys grid a b made_a made_b lt =
    let ia = index_of grid a.start in
    let ib = index_of grid b.start in
    let in_a = made_inside grid a made_a in
    let in_b = made_inside grid b made_b in
    elim (cases_lt ia ib) [
      | inl before ↦
          let begin : begins_some grid (cell_at grid ia) ≡ true = ap (begins_some grid) (cell_at-index_of grid a.start in_a) ∙ begins_one grid a.name.direction a.start made_a.begins in
          let rise = numbers_rise grid ia ib before (omega (arith, index_of-lt grid b.start in_b)) begin in
          inl (omega (arith, rise, made_number grid a made_a, made_number grid b made_b))
      | inr le ↦
          let same : ia ≡ ib = omega (arith, lt, part_small a.name.direction, part_small b.name.direction) in
          let number : a.name.number ≡ b.name.number = made_number grid a made_a ∙ ap (number_at grid) (same_starts grid a.start b.start in_a in_b same) ∙ sym (made_number grid b made_b) in
          let parts = across_part a.name.direction b.name.direction (omega (arith, lt, same)) in
          inr (number, parts.0, parts.1)
    ]

pub lights_are_ordered : LightsAreOrdered
lights_are_ordered grid i j d lt within =
    let lights = lights_of grid in
    let made = lights_are_made grid in
    names_by_keys grid (get_or lights i d) (get_or lights j d) (made i d (omega arith)) (made j d within) (keys_rise grid i j d lt within)

-- ---- cells

step_row : (direction : Direction) (a b : Cell) (k l : ℕ) → step direction a k ≡ step direction b l → l ≤ k → step direction a (k - l) ≡ b
step_row Across a b k l e le =
    let row : a.row ≡ b.row = ap (λ (c : Cell). c.row) e in
    let col : a.col + k ≡ b.col + l = ap (λ (c : Cell). c.col) e in
    ap (λ r. record { row = r; col = a.col + (k - l) }) row ∙ ap (λ c. record { row = b.row; col = c }) (let h : a.col + (k - l) ≡ b.col = omega arith in h)
step_row Down a b k l e le =
    let row : a.row + k ≡ b.row + l = ap (λ (c : Cell). c.row) e in
    let col : a.col ≡ b.col = ap (λ (c : Cell). c.col) e in
    ap (λ c. record { row = a.row + (k - l); col = c }) col ∙ ap (λ r. record { row = r; col = b.col }) (let h : a.row + (k - l) ≡ b.row = omega arith in h)

-- each cell of a light but the last is joined to the next one
made_joined : (grid : Grid) (light : Light) → IsMade grid light → (k : ℕ) → k + 1 < light.size → is_joined grid light.name.direction (step light.name.direction light.start k) ≡ true
made_joined grid light made k within =
    let direction = light.name.direction in
    let first = light.start in
    let run = run_from grid direction first in
    let below : k + 1 < run = omega (arith, made_size grid light made) in
    ap (is_joined grid direction) (sym (get_or-line direction first run k first (omega arith)))
    ∙ (light_is grid direction first made.begins).joined k first (omega (arith, length-line direction first run))

-- no light begins inside another of the same direction
begins_at_first : (grid : Grid) (light : Light) (first : Cell) → IsMade grid light → begins grid light.name.direction first ≡ true → (k : ℕ) → k < light.size → step light.name.direction light.start k ≡ first → k ≡ 0
begins_at_first grid light first made begin zero within at = refl
begins_at_first grid light first made begin (suc k) within at =
    let direction = light.name.direction in
    let plus : suc k ≡ k + 1 = omega arith in
    let before : previous direction first ≡ step direction light.start k =
    previous-next direction (step direction light.start k) first (sym (step-next direction light.start k) ∙ ap (step direction light.start) (sym plus) ∙ at) in
    let parts = and-true (is_joined grid direction first) (not (is_joined grid direction (previous direction first))) begin in
    absurd (both_ways (is_joined grid direction (previous direction first)) (not_true (is_joined grid direction (previous direction first)) parts.1) (ap (is_joined grid direction) before ∙ made_joined grid light made k (omega arith)))

-- two lights of the same direction that share a cell have the same start
pub same_start : (grid : Grid) (a b : Light) → IsMade grid a → IsMade grid b → a.name.direction ≡ b.name.direction → (k l : ℕ) → k < a.size → l < b.size →
    step a.name.direction a.start k ≡ step b.name.direction b.start l → a.start ≡ b.start
same_start grid a b made_a made_b same k l in_a in_b e =
    let at : step a.name.direction a.start k ≡ step a.name.direction b.start l = e ∙ ap (λ d. step d b.start l) (sym same) in
    elim (cases_lt k l) [
      | inl lt ↦
          let moved : step b.name.direction b.start (l - k) ≡ a.start = ap (λ d. step d b.start (l - k)) (sym same) ∙ step_row a.name.direction b.start a.start l k (sym at) (omega arith) in
          let none : l - k ≡ 0 = begins_at_first grid b a.start made_b (ap (λ d. begins grid d a.start) (sym same) ∙ made_a.begins) (l - k) (omega arith) moved in
          absurd (omega arith)
      | inr le ↦
          let moved : step a.name.direction a.start (k - l) ≡ b.start = step_row a.name.direction a.start b.start k l at le in
          let none : k - l ≡ 0 = begins_at_first grid a b.start made_a (ap (λ d. begins grid d b.start) same ∙ made_b.begins) (k - l) (omega arith) moved in
          sym (step-zero a.name.direction a.start) ∙ ap (step a.name.direction a.start) (sym none) ∙ moved
    ]

-- at most one light in the list has a given start and direction
pub same_index : (grid : Grid) (i j : ℕ) (d : Light) → i < length (lights_of grid) → j < length (lights_of grid) →
    (get_or (lights_of grid) i d).name.direction ≡ (get_or (lights_of grid) j d).name.direction → (get_or (lights_of grid) i d).start ≡ (get_or (lights_of grid) j d).start → i ≡ j
same_index grid i j d in_i in_j direction start =
    let keys : key grid (get_or (lights_of grid) i d) ≡ key grid (get_or (lights_of grid) j d) = ap (λ c. 2 * index_of grid c + part (get_or (lights_of grid) i d).name.direction) start ∙ ap (λ t. 2 * index_of grid (get_or (lights_of grid) j d).start + part t) direction in
    elim (cases_lt i j) [
      | inl lt ↦ absurd (omega (arith, keys, keys_rise grid i j d lt in_j))
      | inr le ↦ elim (cases_lt j i) [
        | inl lt ↦ absurd (omega (arith, keys, keys_rise grid j i d lt in_i))
        | inr le_too ↦ omega arith
      ]
    ]

pub lights_are_apart : LightsAreApart
lights_are_apart grid i j d k l in_i in_j direction in_k in_l e =
    let made = lights_are_made grid in
    same_index grid i j d in_i in_j direction (same_start grid (get_or (lights_of grid) i d) (get_or (lights_of grid) j d) (made i d in_i) (made j d in_j) direction k l in_k in_l e)

-- two lights that cross meet in one row and one column
crossing : (a b : Cell) (k l m n : ℕ) → step Across a k ≡ step Down b l → step Across a m ≡ step Down b n → step Across a k ≡ step Across a m
crossing a b k l m n e f =
    let one : a.col + k ≡ b.col = ap (λ (c : Cell). c.col) e in
    let two : a.col + m ≡ b.col = ap (λ (c : Cell). c.col) f in
    ap (λ col. record { row = a.row; col = col }) (one ∙ sym two)

crossing_down : (a b : Cell) (k l m n : ℕ) → step Down a k ≡ step Across b l → step Down a m ≡ step Across b n → step Down a k ≡ step Down a m
crossing_down a b k l m n e f =
    let one : a.row + k ≡ b.row = ap (λ (c : Cell). c.row) e in
    let two : a.row + m ≡ b.row = ap (λ (c : Cell). c.row) f in
    ap (λ row. record { row = row; col = a.col }) (one ∙ sym two)

pub lights_meet_once : LightsMeetOnce
lights_meet_once grid a b k l m n (i, in_a, at_a) (j, in_b, at_b) in_k in_m in_l in_n e f = by_direction a.name.direction b.name.direction refl refl where
  same_light : a.name.direction ≡ b.name.direction → a ≡ b
  same_light same =
      let made = lights_are_made grid in
      let made_a : IsMade grid a = subst (IsMade grid) at_a (made i a in_a) in
      let made_b : IsMade grid b = subst (IsMade grid) at_b (made j b in_b) in
      let start = same_start grid a b made_a made_b same k l in_k in_l e in
      made_a.is ∙ ap (λ d. light_starting grid d a.start) same ∙ ap (light_starting grid b.name.direction) start ∙ sym made_b.is

  by_direction : (d t : Direction) → a.name.direction ≡ d → b.name.direction ≡ t → (a ≡ b) ⊎ (step a.name.direction a.start k ≡ step a.name.direction a.start m)
  by_direction Across Across h g = inl (same_light (h ∙ sym g))
  by_direction Down Down h g = inl (same_light (h ∙ sym g))
  by_direction Across Down h g =
      let turn = λ (p q : ℕ) (x : step a.name.direction a.start p ≡ step b.name.direction b.start q). ap (λ d. step d a.start p) (sym h) ∙ x ∙ ap (λ d. step d b.start q) g in
      inr (ap (λ d. step d a.start k) h ∙ crossing a.start b.start k l m n (turn k l e) (turn m n f) ∙ ap (λ d. step d a.start m) (sym h))
  by_direction Down Across h g =
      let turn = λ (p q : ℕ) (x : step a.name.direction a.start p ≡ step b.name.direction b.start q). ap (λ d. step d a.start p) (sym h) ∙ x ∙ ap (λ d. step d b.start q) g in
      inr (ap (λ d. step d a.start k) h ∙ crossing_down a.start b.start k l m n (turn k l e) (turn m n f) ∙ ap (λ d. step d a.start m) (sym h))
