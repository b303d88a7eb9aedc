-- Finding lights by name, by first cell, and by their cells.
use Rattle.std.proofs.Common.{◌≡◌, ℕ, zero, suc, ◌+◌, ◌*◌, ◌<◌, ◌≤◌, Bool, true, false, cond, ◌&&◌, eqb, ltb, List, [], ◌∷◌, length, get_or, refl, ap, sym, subst, ◌∙◌, inl, inr, arith}
use Rattle.std.specs.Prelude.{Some, None, Option, find, option_map, slice_get}
use Rattle.std.specs.Cmp.Lexicographic.{pointwise}
use Rattle.std.specs.List.Sorted.{IsPartitionedBy, IsPartitionPoint}
use Rattle.std.proofs.lemmas.Bool.{false≢true, cases_lt, cases_eq, both_ways, lt-ltb, le-ltb, ltb-true, eq-eqb, ne_eqb, eqb-true, false_from_ne_true}
use Rattle.std.proofs.lemmas.Bool.Decides.{nat_tests}
use Rattle.std.proofs.lemmas.List.Quantifiers.{position-Some}
use Rattle.std.proofs.lemmas.Option.{slice_get-get_or}
use Rattle.xw_text.proofs.Position.{position_is_some, position_is_none}
use Rattle.xw_grid.specs.declared.cell.Cell.{Cell}
use Rattle.xw_grid.specs.declared.cell.Direction.{Direction}
use Rattle.xw_grid.specs.declared.cell.Direction.TheVariants.{Across, Down}
use Rattle.xw_grid.specs.declared.cell.LightName.{LightName}
use Rattle.xw_grid.specs.declared.lights.Light.{Light}
use Rattle.xw_grid.specs.Grid.{Grid, same_cell}
use Rattle.xw_grid.specs.Light.{step, line, cells_of, lights_of, no_light, number_at, same_direction, same_name, name_before, is_on_line, holds, passes, index_named, index_through, have_same_cells, index_with_cells, number_in}
use Rattle.xw_grid.specs.LightLaws.{AreApart, AreOrdered, IsBefore}
use Rattle.xw_grid.specs.LightTable.{number_of_start, is_such}
use Rattle.xw_grid.proofs.GridLemmas.{and-true, cells_same, same_cell_itself}
use Rattle.xw_grid.proofs.LightLemmas.{size_of_light, length-line, get_or-line, step-zero}
use Rattle.xw_grid.proofs.OrderLemmas.{part, part_small, lights_are_made, lights_are_apart, lights_are_ordered, made_number}
use Rattle.xw_grid.proofs.LightTableLemmas.{index_is, direction_is}

-- the facts that searches depend on
pub record AreGood (lights : List Light) : Type 0 where
  pub apart : AreApart lights
  pub ordered : AreOrdered lights
  pub several : (i : ℕ) (d : Light) → i < length lights → 2 ≤ (get_or lights i d).size
  pub numbered : (i j : ℕ) (d : Light) → i < length lights → j < length lights → (get_or lights i d).start ≡ (get_or lights j d).start → (get_or lights i d).name.number ≡ (get_or lights j d).name.number

pub lights_are_good : (grid : Grid) (lights : List Light) → lights ≡ lights_of grid → AreGood lights
lights_are_good grid lights same =
    let made = lights_are_made grid in
    subst AreGood (sym same) (record {
      apart = lights_are_apart grid;
      ordered = lights_are_ordered grid;
      several = λ i d within. size_of_light grid i d within;
      numbered = λ i j d in_i in_j start. made_number grid (get_or (lights_of grid) i d) (made i d in_i) ∙ ap (number_at grid) start ∙ sym (made_number grid (get_or (lights_of grid) j d) (made j d in_j));
    })

-- ---- by name

rank : LightName → ℕ
rank name = 2 * name.number + part name.direction

parts_before : (a b : Direction) → (same_direction a Across && same_direction b Down) ≡ ltb (part a) (part b)
parts_before Across Across = refl
parts_before Across Down = refl
parts_before Down Across = refl
parts_before Down Down = refl

name_before-rank : (a b : LightName) → name_before a b ≡ ltb (rank a) (rank b)
unfolding rank
name_before-rank a b =
    elim (cases_lt a.number b.number) [
      | inl lt ↦ rw (lt-ltb a.number b.number lt, lt-ltb (2 * a.number + part a.direction) (2 * b.number + part b.direction) (omega (arith, part_small a.direction))) refl
      | inr le ↦ rw (le-ltb a.number b.number le) (elim (cases_eq a.number b.number) [
        | inl same ↦ rw (eq-eqb a.number b.number same, parts_before a.direction b.direction) (elim (cases_lt (part a.direction) (part b.direction)) [
          | inl lt ↦ rw (lt-ltb (part a.direction) (part b.direction) lt, lt-ltb (2 * a.number + part a.direction) (2 * b.number + part b.direction) (omega arith)) refl
          | inr not_lt ↦ rw (le-ltb (part a.direction) (part b.direction) not_lt, le-ltb (2 * a.number + part a.direction) (2 * b.number + part b.direction) (omega arith)) refl
        ])
        | inr apart ↦ rw (ne_eqb a.number b.number apart, le-ltb (2 * a.number + part a.direction) (2 * b.number + part b.direction) (omega (arith, apart, part_small b.direction))) refl
      ])
    ]

before_rank : (a b : LightName) → IsBefore a b → rank a < rank b
unfolding rank
before_rank a b (inl lt) = omega (arith, part_small a.direction)
before_rank a b (inr (same, across, down)) =
    let one : part a.direction ≡ 0 = ap part across in
    let two : part b.direction ≡ 1 = ap part down in
    omega arith

same_rank : (a b : LightName) → same_name a b ≡ true → rank a ≡ rank b
unfolding rank
same_rank a b h =
    let both = and-true (eqb a.number b.number) (same_direction a.direction b.direction) h in
    let number : a.number ≡ b.number = grind (arith, nat_tests, both.0) in
    let direction : part a.direction ≡ part b.direction = ap part (direction_is a.direction b.direction both.1) in
    omega arith

pub named_parted : (lights : List Light) (name : LightName) → AreGood lights → IsPartitionedBy (λ light. name_before light.name name) lights
named_parted lights name good i j d le within h =
    let after = ltb-true (rank (get_or lights j d).name) (rank name) (sym (name_before-rank (get_or lights j d).name name) ∙ h) in
    elim (cases_lt i j) [
      | inl lt ↦ name_before-rank (get_or lights i d).name name ∙ lt-ltb (rank (get_or lights i d).name) (rank name) (omega (arith, after, before_rank _ _ (good.ordered i j d lt within)))
      | inr not_lt ↦ ap (λ k. name_before (get_or lights k d).name name) (let e : i ≡ j = omega arith in e) ∙ h
    ]

such_at : (test : Light → Bool) (lights : List Light) (index : ℕ) → is_such test (slice_get lights index) ≡ true → (index < length lights) × (test (get_or lights index no_light) ≡ true)
such_at test [] index h = absurd (false≢true h)
such_at test (x ∷ xs) zero h = (omega arith, h)
such_at test (x ∷ xs) (suc index) h = let rest = such_at test xs index h in (omega (arith, rest.0), rest.1)

such_is : (test : Light → Bool) (lights : List Light) (index : ℕ) → index < length lights → test (get_or lights index no_light) ≡ true → is_such test (slice_get lights index) ≡ true
such_is test lights index within h = ap (is_such test) (slice_get-get_or lights index no_light within) ∙ h

module _ (lights : List Light) (name : LightName) (index : ℕ) (good : AreGood lights) (parted : IsPartitionPoint (λ light. name_before light.name name ≡ true) (λ light. name_before light.name name ≡ false) lights index) where
  low_rank : (k : ℕ) → k < index → rank (get_or lights k no_light).name < rank name
  low_rank k lt = ltb-true (rank (get_or lights k no_light).name) (rank name) (sym (name_before-rank (get_or lights k no_light).name name) ∙ parted.0 k no_light (omega arith) lt)

  pub named_there : is_such (λ light. same_name light.name name) (slice_get lights index) ≡ true → Some index ≡ index_named lights name
  named_there h =
      let at = such_at (λ light. same_name light.name name) lights index h in
      sym (position_is_some (λ light. same_name light.name name) lights index no_light at.0 (λ k lt.
      false_from_ne_true (same_name (get_or lights k no_light).name name) (λ e. absurd (omega (arith, low_rank k lt, same_rank (get_or lights k no_light).name name e)))) at.1)

  pub named_nowhere : is_such (λ light. same_name light.name name) (slice_get lights index) ≡ false → None ≡ index_named lights name
  named_nowhere h =
      sym (position_is_none (λ light. same_name light.name name) lights no_light (λ k within.
      false_from_ne_true (same_name (get_or lights k no_light).name name) (λ e. elim (cases_lt k index) [
        | inl lt ↦ absurd (omega (arith, low_rank k lt, same_rank (get_or lights k no_light).name name e))
        | inr le ↦ elim (cases_eq index k) [
          | inl same ↦ absurd (both_ways (is_such (λ light. same_name light.name name) (slice_get lights index)) h (ap (λ p. is_such (λ light. same_name light.name name) (slice_get lights p)) same ∙ such_is (λ light. same_name light.name name) lights k within e))
          | inr apart ↦
              let lt : index < k = omega (arith, apart) in
              let below = before_rank _ _ (good.ordered index k no_light lt within) in
              let here : name_before (get_or lights index no_light).name name ≡ true = name_before-rank (get_or lights index no_light).name name ∙ lt-ltb (rank (get_or lights index no_light).name) (rank name) (omega (arith, below, same_rank (get_or lights k no_light).name name e)) in
              absurd (both_ways (name_before (get_or lights index no_light).name name) (parted.1 index no_light (omega arith) (omega arith)) here)
        ]
      ])))

-- ---- by first cell

same_direction_itself : (direction : Direction) → same_direction direction direction ≡ true
same_direction_itself Across = refl
same_direction_itself Down = refl

start_held : (direction : Direction) (first : Cell) (n : ℕ) → 0 < n → is_on_line direction first n first ≡ true
start_held Across first n some = grind (arith, nat_tests)
start_held Down first n some = grind (arith, nat_tests)

passes_start : (light : Light) → 0 < light.size → passes light.name.direction light.start light ≡ true
passes_start light some = rw (same_direction_itself light.name.direction) (start_held light.name.direction light.start light.size some)

number_there : (lights : List Light) (i : ℕ) (cell : Cell) → i < length lights → number_of_start lights (Some i) cell ≡ cond (same_cell (get_or lights i no_light).start cell) (Some (get_or lights i no_light).name.number) None
number_there lights i cell within = rw (slice_get-get_or lights i no_light within) refl

abbrev Begins : List Light → Cell → ℕ → Type 0
Begins lights cell number = (i : ℕ) × (i < length lights) × ((get_or lights i no_light).start ≡ cell) × ((get_or lights i no_light).name.number ≡ number)

found_start : (lights : List Light) (direction : Direction) (cell : Cell) (index : Option ℕ) (number : ℕ) → index ≡ index_through lights direction cell → number_of_start lights index cell ≡ Some number → Begins lights cell number
found_start lights direction cell None number is h = cc
found_start lights direction cell (Some i) number is h =
    let within = (position-Some (passes direction cell) lights i no_light (sym is)).0 in
    elim (same_cell (get_or lights i no_light).start cell) as (λ b. same_cell (get_or lights i no_light).start cell ≡ b → cond b (Some (get_or lights i no_light).name.number) None ≡ Some number → Begins lights cell number) [
      | true ↦ λ same e. (i, within, cells_same (get_or lights i no_light).start cell same, (let e : (get_or lights i no_light).name.number ≡ number = cc in e))
      | false ↦ λ _ e. cc
    ] refl (sym (number_there lights i cell within) ∙ h)

not_start : (lights : List Light) → AreGood lights → (direction : Direction) (cell : Cell) (index : Option ℕ) → index ≡ index_through lights direction cell → number_of_start lights index cell ≡ None →
    (i : ℕ) → i < length lights → (get_or lights i no_light).name.direction ≡ direction → same_cell (get_or lights i no_light).start cell ≡ false
not_start lights good direction cell index is none i within towards =
    let light = get_or lights i no_light in
    false_from_ne_true (same_cell light.start cell) (λ h.
    let at : light.start ≡ cell = cells_same light.start cell h in
    let through : passes direction cell light ≡ true = subst (λ d. passes d cell light ≡ true) towards (subst (λ c. passes light.name.direction c light ≡ true) at (passes_start light (omega (arith, good.several i no_light within)))) in
    let found : index ≡ Some i = is ∙ index_is lights good.apart direction cell i no_light within through in
    let number : number_of_start lights index cell ≡ Some light.name.number = ap (λ p. number_of_start lights p cell) found ∙ number_there lights i cell within ∙ ap (λ b. cond b (Some light.name.number) None) h in
    cc)

find_all : (p : Light → Bool) (xs : List Light) (number : ℕ) → ((i : ℕ) → i < length xs → p (get_or xs i no_light) ≡ true → (get_or xs i no_light).name.number ≡ number) → (i : ℕ) → i < length xs → p (get_or xs i no_light) ≡ true → option_map (λ light. light.name.number) (find p xs) ≡ Some number
find_all p [] number all i within h = absurd (omega arith)
find_all p (x ∷ xs) number all zero within h = rw h (ap (λ n. Some n) (all 0 (omega arith) h))
find_all p (x ∷ xs) number all (suc i) within h =
    elim (p x) as (λ b. p x ≡ b → option_map (λ light. light.name.number) (cond b (Some x) (find p xs)) ≡ Some number) [
      | true ↦ λ here. ap (λ n. Some n) (all 0 (omega arith) here)
      | false ↦ λ _. find_all p xs number (λ k lt. all (suc k) (omega arith)) i (omega arith) h
    ] refl

find_none : (p : Light → Bool) (xs : List Light) → ((i : ℕ) → i < length xs → p (get_or xs i no_light) ≡ false) → option_map (λ light. light.name.number) (find p xs) ≡ None
find_none p [] none = refl
find_none p (x ∷ xs) none = rw (none 0 (omega arith)) (find_none p xs (λ i lt. none (suc i) (omega arith)))

begun_number : (lights : List Light) → AreGood lights → (cell : Cell) (number : ℕ) → Begins lights cell number → number_in lights cell ≡ Some number
begun_number lights good cell number (i, within, at, is) =
    find_all (λ light. same_cell light.start cell) lights number
    (λ k below h. good.numbered k i no_light below within (cells_same (get_or lights k no_light).start cell h ∙ sym at) ∙ is)
    i within (ap (λ c. same_cell c cell) at ∙ same_cell_itself cell)

pub number_across : (lights : List Light) → AreGood lights → (cell : Cell) (index : Option ℕ) (number : ℕ) → index ≡ index_through lights Across cell → number_of_start lights index cell ≡ Some number → Some number ≡ number_in lights cell
number_across lights good cell index number is h = sym (begun_number lights good cell number (found_start lights Across cell index number is h))

pub number_down : (lights : List Light) → AreGood lights → (cell : Cell) (across down number : Option ℕ) → across ≡ index_through lights Across cell → number_of_start lights across cell ≡ None → down ≡ index_through lights Down cell → number ≡ number_of_start lights down cell → number ≡ number_in lights cell
number_down lights good cell across down (Some number) is_across none is_down h = sym (begun_number lights good cell number (found_start lights Down cell down number is_down (sym h)))
number_down lights good cell across down None is_across none is_down h =
    sym (find_none (λ light. same_cell light.start cell) lights (λ i within. by_direction i within (get_or lights i no_light).name.direction refl)) where
      by_direction : (i : ℕ) → i < length lights → (direction : Direction) → (get_or lights i no_light).name.direction ≡ direction → same_cell (get_or lights i no_light).start cell ≡ false
      by_direction i within Across e = not_start lights good Across cell across is_across none i within e
      by_direction i within Down e = not_start lights good Down cell down is_down (sym h) i within e

-- ---- by all cells

pointwise_same : (xs ys : List Cell) → pointwise same_cell xs ys ≡ true → xs ≡ ys
pointwise_same [] [] h = refl
pointwise_same [] (y ∷ ys) h = absurd (false≢true h)
pointwise_same (x ∷ xs) [] h = absurd (false≢true h)
pointwise_same (x ∷ xs) (y ∷ ys) h =
    let both = and-true (same_cell x y) (pointwise same_cell xs ys) h in
    ap (λ c. c ∷ xs) (cells_same x y both.0) ∙ ap (λ cs. y ∷ cs) (pointwise_same xs ys both.1)

pointwise_itself : (xs : List Cell) → pointwise same_cell xs xs ≡ true
pointwise_itself [] = refl
pointwise_itself (x ∷ xs) = rw (same_cell_itself x) (pointwise_itself xs)

one_step : (a b : Direction) (first : Cell) → step a first 1 ≡ step b first 1 → a ≡ b
one_step Across Across first e = refl
one_step Across Down first e = let row : first.row ≡ first.row + 1 = ap (λ (c : Cell). c.row) e in absurd (omega arith)
one_step Down Across first e = let row : first.row + 1 ≡ first.row = ap (λ (c : Cell). c.row) e in absurd (omega arith)
one_step Down Down first e = refl

-- lights with the same cells have the same direction, start and size
pub alike : (a b : Light) → 2 ≤ a.size → have_same_cells a b ≡ true → (a.name.direction ≡ b.name.direction) × (a.start ≡ b.start) × (a.size ≡ b.size)
alike a b several h =
    let e : cells_of a ≡ cells_of b = pointwise_same (cells_of a) (cells_of b) h in
    let size : a.size ≡ b.size = sym (length-line a.name.direction a.start a.size) ∙ ap length e ∙ length-line b.name.direction b.start b.size in
    let at = λ (k : ℕ) (lt : k < a.size). sym (get_or-line a.name.direction a.start a.size k a.start lt) ∙ ap (λ cells. get_or cells k a.start) e ∙ get_or-line b.name.direction b.start b.size k a.start (omega arith) in
    let start : a.start ≡ b.start = sym (step-zero a.name.direction a.start) ∙ at 0 (omega arith) ∙ step-zero b.name.direction b.start in
    let second : step a.name.direction a.start 1 ≡ step b.name.direction a.start 1 = at 1 (omega arith) ∙ ap (λ c. step b.name.direction c 1) (sym start) in
    (one_step a.name.direction b.name.direction a.start second, start, size)

have_same : (a b : Light) → a.name.direction ≡ b.name.direction → a.start ≡ b.start → a.size ≡ b.size → have_same_cells a b ≡ true
have_same a b direction start size =
    let e : cells_of a ≡ cells_of b = ap (λ d. line d a.start a.size) direction ∙ ap (λ c. line b.name.direction c a.size) start ∙ ap (line b.name.direction b.start) size in
    ap (pointwise same_cell (cells_of a)) (sym e) ∙ pointwise_itself (cells_of a)

module _ (lights : List Light) (good : AreGood lights) (light : Light) (several : 2 ≤ light.size) where
  abbrev is_like : Light → Bool
  is_like other = same_cell other.start light.start && eqb other.size light.size

  like_through : (k : ℕ) → k < length lights → have_same_cells light (get_or lights k no_light) ≡ true → (index_through lights light.name.direction light.start ≡ Some k) × (is_like (get_or lights k no_light) ≡ true)
  like_through k within h =
      let other = get_or lights k no_light in
      let same = alike light other several h in
      let through : passes light.name.direction light.start other ≡ true = subst (λ d. passes d light.start other ≡ true) (sym same.0) (subst (λ c. passes other.name.direction c other ≡ true) (sym same.1) (passes_start other (omega (arith, same.2)))) in
      (index_is lights good.apart light.name.direction light.start k no_light within through, rw (sym same.1, same_cell_itself light.start, eq-eqb other.size light.size (sym same.2)) refl)

  pub like_nowhere : index_through lights light.name.direction light.start ≡ None → None ≡ index_with_cells lights light
  like_nowhere none =
      sym (position_is_none (have_same_cells light) lights no_light (λ k within.
      false_from_ne_true (have_same_cells light (get_or lights k no_light)) (λ h. let there = (like_through k within h).0 in cc)))

  pub like_other : (index : ℕ) → index_through lights light.name.direction light.start ≡ Some index → is_such is_like (slice_get lights index) ≡ false → None ≡ index_with_cells lights light
  like_other index is other =
      sym (position_is_none (have_same_cells light) lights no_light (λ k within.
      false_from_ne_true (have_same_cells light (get_or lights k no_light)) (λ h.
      let there = like_through k within h in
      let same : k ≡ index = (let e : ◌≡◌ {A = Option ℕ} (Some k) (Some index) = sym there.0 ∙ is in cc) in
      absurd (both_ways (is_such is_like (slice_get lights index)) other (ap (λ p. is_such is_like (slice_get lights p)) (sym same) ∙ such_is is_like lights k within there.1)))))

  pub like_there : (index : ℕ) → index_through lights light.name.direction light.start ≡ Some index → is_such is_like (slice_get lights index) ≡ true → Some index ≡ index_with_cells lights light
  like_there index is h =
      let at = such_at is_like lights index h in
      let found = get_or lights index no_light in
      let through = position-Some (passes light.name.direction light.start) lights index no_light is in
      let towards = direction_is found.name.direction light.name.direction (and-true (same_direction found.name.direction light.name.direction) (holds found light.start) through.1).0 in
      let both = and-true (same_cell found.start light.start) (eqb found.size light.size) at.1 in
      sym (position_is_some (have_same_cells light) lights index no_light at.0 (λ k lt.
      false_from_ne_true (have_same_cells light (get_or lights k no_light)) (λ e.
      let there = (like_through k (omega (arith, at.0)) e).0 in
      let same : k ≡ index = (let e : ◌≡◌ {A = Option ℕ} (Some k) (Some index) = sym there ∙ is in cc) in
      absurd (omega arith)))
      (have_same light found (sym towards) (sym (cells_same found.start light.start both.0)) (sym (eqb-true found.size light.size both.1))))
