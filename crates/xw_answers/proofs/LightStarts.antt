-- A light with a name begins at the cell with its number.
use Rattle.std.proofs.Common.{◌≡◌, ℕ, ◌+◌, ◌<◌, ◌≤◌, true, false, ◌||◌, eqb, length, get_or, take, refl, ap, sym, subst, ◌∙◌, inl, inr, arith}
use Rattle.std.specs.Prelude.{Some, None, Option, count_by, option_map, slice_get}
use Rattle.std.specs.Option.{option_and_then}
use Rattle.std.proofs.lemmas.Bool.{cases_lt, eq-eqb, false_from_ne_true, both_ways}
use Rattle.std.proofs.lemmas.Bool.Decides.{nat_tests}
use Rattle.std.proofs.lemmas.List.{get_or_default}
use Rattle.std.proofs.lemmas.Option.{slice_get-get_or}
use Rattle.xw_text.proofs.Position.{position_is_none, position_is_some}
use Rattle.xw_grid.specs.declared.cell.Cell.{Cell}
use Rattle.xw_grid.specs.declared.cell.Direction.{Direction}
use Rattle.xw_grid.specs.declared.cell.Direction.TheVariants.{Across, Down}
use Rattle.xw_grid.specs.declared.cell.LightName.{LightName}
use Rattle.xw_grid.specs.declared.lights.Light.{Light}
use Rattle.xw_grid.specs.Grid.{Grid, cell_at, cells, index_of, is_inside}
use Rattle.xw_grid.specs.Light.{begins, begins_some, index_named, is_joined, lights_of, no_cell, no_light, number_at, same_direction, same_name}
use Rattle.xw_grid.specs.LightLaws.{IsBefore}
use Rattle.xw_grid.proofs.GridLemmas.{and-true, cell_at-index_of, index_of-cell_at, index_of-lt}
use Rattle.xw_grid.proofs.LightLemmas.{get_or-line, joined_inside, lights_are_all, lights_begin, size_of_light, step-zero}
use Rattle.xw_grid.proofs.LightTableLemmas.{direction_is}
use Rattle.xw_grid.proofs.OrderLemmas.{lights_are_made, lights_are_ordered, made_number, numbers_rise}
use Rattle.xw_answers.specs.Text.{light_of}

-- where the light with a name begins
abbrev pub start_of : Grid → LightName → Option Cell
start_of grid name = option_map (λ (light : Light). light.start) (light_of grid name)

-- ---- cells where lights begin

begin_inside : (grid : Grid) (direction : Direction) (cell : Cell) → begins grid direction cell ≡ true → is_inside grid cell ≡ true
begin_inside grid direction cell begin = (joined_inside grid direction cell (and-true (is_joined grid direction cell) _ begin).0).0

pub begins_inside : (grid : Grid) (cell : Cell) → begins_some grid cell ≡ true → is_inside grid cell ≡ true
begins_inside grid cell begin =
    elim (begins grid Across cell) as (λ b. begins grid Across cell ≡ b → (b || begins grid Down cell) ≡ true → is_inside grid cell ≡ true) [
      | true ↦ λ across _. begin_inside grid Across cell across
      | false ↦ λ _ down. begin_inside grid Down cell down
    ] refl begin

begins_one : (grid : Grid) (direction : Direction) (cell : Cell) → begins grid direction cell ≡ true → begins_some grid cell ≡ true
begins_one grid Across cell begin = ap (λ b. b || begins grid Down cell) begin
begins_one grid Down cell begin =
    elim (begins grid Across cell) as (λ b. (b || begins grid Down cell) ≡ true) [ true ↦ refl | false ↦ begin ]

-- no two cells have the same number
numbered_once : (grid : Grid) (a b : Cell) → begins_some grid a ≡ true → begins_some grid b ≡ true → number_at grid a ≡ number_at grid b → a ≡ b
numbered_once grid a b begin_a begin_b same =
    let in_a = begins_inside grid a begin_a in
    let in_b = begins_inside grid b begin_b in
    let at_a = cell_at-index_of grid a in_a in
    let at_b = cell_at-index_of grid b in_b in
    elim (cases_lt (index_of grid a) (index_of grid b)) [
      | inl lt ↦ absurd (omega (arith, same, numbers_rise grid (index_of grid a) (index_of grid b) lt (omega (arith, index_of-lt grid b in_b)) (ap (begins_some grid) at_a ∙ begin_a)))
      | inr le ↦ elim (cases_lt (index_of grid b) (index_of grid a)) [
        | inl lt ↦ absurd (omega (arith, same, numbers_rise grid (index_of grid b) (index_of grid a) lt (omega (arith, index_of-lt grid a in_a)) (ap (begins_some grid) at_b ∙ begin_b)))
        | inr ge ↦ sym at_a ∙ ap (cell_at grid) (let e : index_of grid a ≡ index_of grid b = omega arith in e) ∙ at_b
      ]
    ]

-- the number of a cell, from how many cells before it have one
pub number_counted : (grid : Grid) (k begun : ℕ) → begun ≡ count_by (begins_some grid) (take k (cells grid)) → number_at grid (cell_at grid k) ≡ begun + 1
number_counted grid k begun counted =
    ap (λ n. count_by (begins_some grid) (take n (cells grid)) + 1) (index_of-cell_at grid k) ∙ ap (λ n. n + 1) (sym counted)

-- a light that begins at a cell is in the list
record IsListed (grid : Grid) (towards : Direction) (cell : Cell) : Type 0 where
  pub index : ℕ
  pub within : index < length (lights_of grid)
  pub direction : (get_or (lights_of grid) index no_light).name.direction ≡ towards
  pub start : (get_or (lights_of grid) index no_light).start ≡ cell

listed : (grid : Grid) (direction : Direction) (cell : Cell) → begins grid direction cell ≡ true → IsListed grid direction cell
listed grid direction cell begin =
    let lights = lights_of grid in
    let is = (lights_begin grid direction cell).0 begin in
    let all = lights_are_all grid direction is.0 is.1 in
    let light = all.0 in
    let at : get_or lights all.1.0 no_light ≡ light = get_or_default lights all.1.0 no_light light all.1.1 ∙ all.1.2 in
    let long : 2 ≤ light.size = subst (λ (l : Light). 2 ≤ l.size) at (size_of_light grid all.1.0 no_light all.1.1) in
    let first : light.start ≡ cell = sym (step-zero light.name.direction light.start) ∙ sym (get_or-line light.name.direction light.start light.size 0 no_cell (omega (arith, long))) ∙ ap (λ cells. get_or cells 0 no_cell) all.3 ∙ is.2 in
    record {
      index = all.1.0;
      within = all.1.1;
      direction = ap (λ (l : Light). l.name.direction) at ∙ all.2;
      start = ap (λ (l : Light). l.start) at ∙ first;
    }

-- ---- names

same_name_is : (name other : LightName) → name ≡ other → same_name name other ≡ true
same_name_is name other is = ap (λ n. same_name n other) is ∙ rw (eq-eqb other.number other.number refl) (same_way other.direction) where
  same_way : (direction : Direction) → same_direction direction direction ≡ true
  same_way Across = refl
  same_way Down = refl

same_number : (a b : LightName) → same_name a b ≡ true → a.number ≡ b.number
same_number a b h = let both = and-true (eqb a.number b.number) (same_direction a.direction b.direction) h in grind (arith, nat_tests, both.0)

same_way : (a b : LightName) → same_name a b ≡ true → a.direction ≡ b.direction
same_way a b h = direction_is a.direction b.direction (and-true (eqb a.number b.number) (same_direction a.direction b.direction) h).1

across_is_not_down : Across ≡ Down → ⊥
across_is_not_down same = cc

not_before : (a b name : LightName) → IsBefore a b → same_name a name ≡ true → same_name b name ≡ true → ⊥
not_before a b name (inl lt) is_a is_b = absurd (omega (arith, lt, same_number a name is_a, same_number b name is_b))
not_before a b name (inr (same, across, down)) is_a is_b = across_is_not_down (sym across ∙ same_way a name is_a ∙ sym (same_way b name is_b) ∙ down)

named_at : (grid : Grid) (name : LightName) (k : ℕ) → k < length (lights_of grid) → same_name (get_or (lights_of grid) k no_light).name name ≡ true → index_named (lights_of grid) name ≡ Some k
named_at grid name k within here =
    position_is_some (λ light. same_name light.name name) (lights_of grid) k no_light within (λ j lt.
    false_from_ne_true (same_name (get_or (lights_of grid) j no_light).name name) (λ e.
    not_before (get_or (lights_of grid) j no_light).name (get_or (lights_of grid) k no_light).name name (lights_are_ordered grid j k no_light lt within) e here)) here

-- ---- where the light with a name begins

pub begins_here : (grid : Grid) (name : LightName) (start : Cell) → begins grid name.direction start ≡ true → number_at grid start ≡ name.number → Some start ≡ start_of grid name
begins_here grid name start begin number =
    let lights = lights_of grid in
    let found = listed grid name.direction start begin in
    let light = get_or lights found.index no_light in
    let made = lights_are_made grid found.index no_light found.within in
    let count : light.name.number ≡ name.number = made_number grid light made ∙ ap (number_at grid) found.start ∙ number in
    let called : light.name ≡ name = ap (λ n. record { number = n; direction = light.name.direction }) count ∙ ap (λ d. record { number = name.number; direction = d }) found.direction in
    let index = named_at grid name found.index found.within (same_name_is light.name name called) in
    sym (ap (λ at. option_map (λ (l : Light). l.start) (option_and_then (slice_get lights) at)) index ∙ ap (option_map (λ (l : Light). l.start)) (slice_get-get_or lights found.index no_light found.within) ∙ ap Some found.start)

begins_nowhere : (grid : Grid) (name : LightName) → ((k : ℕ) → k < length (lights_of grid) → same_name (get_or (lights_of grid) k no_light).name name ≡ true → ⊥) → None ≡ start_of grid name
begins_nowhere grid name none =
    sym (ap (λ at. option_map (λ (l : Light). l.start) (option_and_then (slice_get (lights_of grid)) at)) (position_is_none (λ light. same_name light.name name) (lights_of grid) no_light (λ k within.
    false_from_ne_true (same_name (get_or (lights_of grid) k no_light).name name) (none k within))))

-- no cell has the number
pub begins_at_no_cell : (grid : Grid) (name : LightName) → ((cell : Cell) → begins_some grid cell ≡ true → number_at grid cell ≡ name.number → ⊥) → None ≡ start_of grid name
begins_at_no_cell grid name none =
    begins_nowhere grid name (λ k within same.
    let light = get_or (lights_of grid) k no_light in
    let made = lights_are_made grid k no_light within in
    none light.start (begins_one grid light.name.direction light.start made.begins) (sym (made_number grid light made) ∙ same_number light.name name same))

-- no light in this direction begins at the cell with the number
pub begins_elsewhere : (grid : Grid) (name : LightName) (start : Cell) → begins_some grid start ≡ true → number_at grid start ≡ name.number → begins grid name.direction start ≡ false → None ≡ start_of grid name
begins_elsewhere grid name start begin number not_here =
    begins_nowhere grid name (λ k within same.
    let light = get_or (lights_of grid) k no_light in
    let made = lights_are_made grid k no_light within in
    let at : light.start ≡ start = numbered_once grid light.start start (begins_one grid light.name.direction light.start made.begins) begin (sym (made_number grid light made) ∙ same_number light.name name same ∙ sym number) in
    both_ways (begins grid name.direction start) not_here (ap (λ d. begins grid d start) (sym (same_way light.name name same)) ∙ ap (begins grid light.name.direction) (sym at) ∙ made.begins))
