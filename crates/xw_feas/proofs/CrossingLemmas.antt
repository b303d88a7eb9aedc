-- The two lights through a cell.
use Rattle.std.proofs.Common.{◌≡◌, ℕ, ◌+◌, ◌-◌, ◌<◌, ◌≤◌, Bool, true, false, cond, ◌&&◌, eqb, leb, ltb, length, get_or, refl, sym, ◌∙◌, ap, subst, arith, List, Option, Some, None}
use Rattle.std.specs.Prelude.{IfSome}
use Rattle.std.proofs.lemmas.Bool.{and_parts, and_from, eq-eqb, ne_eqb, lt-ltb, both_ways}
use Rattle.std.proofs.lemmas.Bool.Decides.{nat_tests}
use Rattle.std.proofs.lemmas.List.Quantifiers.{position-Some}
use Rattle.xw_grid.specs.declared.cell.Cell.{Cell}
use Rattle.xw_grid.specs.declared.cell.Direction.{Direction}
use Rattle.xw_grid.specs.declared.cell.Direction.TheVariants.{Across, Down}
use Rattle.xw_grid.specs.declared.lights.Light.{Light}
use Rattle.xw_grid.specs.Grid.{Grid, IsGrid, index_of, cell_at}
use Rattle.xw_grid.specs.Light.{step, lights_of, no_light, same_direction, is_on_line, holds, passes, index_through}
use Rattle.xw_grid.proofs.GridLemmas.{cell_at-index_of, index_of-cell_at, inside_small}
use Rattle.xw_grid.proofs.OrderLemmas.{lights_are_apart}
use Rattle.xw_grid.proofs.LightTableLemmas.{held_step, index_is as light_table_lemmas_index_is}
use Rattle.xw_feas.specs.Board.{Board, board_of, light_at, IsCrossing, other_than, first_found}
use Rattle.xw_feas.proofs.BoardLemmas.{length-lights, light_fits}
use Rattle.xw_feas.proofs.FormedLemmas.{light_in, cell_of, length-light_at, within_lights, index_is, inside_at}

on_line : (direction : Direction) (first : Cell) (n k : ℕ) → k < n → is_on_line direction first n (step direction first k) ≡ true
on_line Across first n k below =
    and_from (eqb first.row first.row) (leb first.col (first.col + k) && ltb (first.col + k - first.col) n) (eq-eqb first.row first.row refl)
    (and_from (leb first.col (first.col + k)) (ltb (first.col + k - first.col) n) (grind (arith, nat_tests)) (lt-ltb (first.col + k - first.col) n (omega arith)))
on_line Down first n k below =
    and_from (eqb first.col first.col) (leb first.row (first.row + k) && ltb (first.row + k - first.row) n) (eq-eqb first.col first.col refl)
    (and_from (leb first.row (first.row + k)) (ltb (first.row + k - first.row) n) (grind (arith, nat_tests)) (lt-ltb (first.row + k - first.row) n (omega arith)))

same_direction_itself : (direction : Direction) → same_direction direction direction ≡ true
same_direction_itself Across = refl
same_direction_itself Down = refl

-- the direction of a light
abbrev pub towards : Grid → ℕ → Direction
towards grid light = (light_in grid light).name.direction

-- a light through a cell is found by its direction
pub through_at : (grid : Grid) (light position cell : ℕ) → position < length (light_at (board_of grid) light) → get_or (light_at (board_of grid) light) position 0 ≡ cell
    → index_through (lights_of grid) (towards grid light) (cell_at grid cell) ≡ Some light
through_at grid light position cell below meets =
    let within = within_lights grid light position below in
    let start = (light_in grid light).start in
    let size = (light_in grid light).size in
    let is : cell_at grid cell ≡ step (towards grid light) start position =
    ap (cell_at grid) (sym meets ∙ index_is grid light position below) ∙ cell_at-index_of grid (cell_of grid light position) (inside_at grid light position below) in
    let there : is_on_line (towards grid light) start size (cell_at grid cell) ≡ true =
    ap (is_on_line (towards grid light) start size) is ∙ on_line (towards grid light) start size position (omega (arith, length-light_at grid light within)) in
    light_table_lemmas_index_is (lights_of grid) (lights_are_apart grid) (towards grid light) (cell_at grid cell) light no_light within
    (and_from (same_direction (towards grid light) (towards grid light)) (is_on_line (towards grid light) start size (cell_at grid cell)) (same_direction_itself (towards grid light)) there)

-- the cell at a position of a light
pub position_cell : (grid : Grid) (board : Board) → board ≡ board_of grid → (light position : ℕ) → position < length (light_at board light) → (found : Light) → found ≡ light_in grid light
    → step found.name.direction found.start position ≡ cell_at grid (get_or (light_at board light) position 0)
position_cell grid board is light position below found same =
    let within : position < length (light_at (board_of grid) light) = subst (λ b. position < length (light_at b light)) is below in
    ap (λ (l : Light). step l.name.direction l.start position) same
    ∙ sym (cell_at-index_of grid (cell_of grid light position) (inside_at grid light position within))
    ∙ ap (cell_at grid) (sym (index_is grid light position within) ∙ ap (λ b. get_or (light_at b light) position 0) (sym is))

-- a position in a light is small
pub small_position : (grid : Grid) (board : Board) → board ≡ board_of grid → IsGrid grid → (light position : ℕ) → position < length (light_at board light) → position < 255
small_position grid board is formed light position below =
    let within : position < length (light_at (board_of grid) light) = subst (λ b. position < length (light_at b light)) is below in
    let in_lights = within_lights grid light position within in
    omega (arith, within, length-light_at grid light in_lights, (light_fits grid light no_light formed in_lights).size)

-- so are the row and the column where it begins
pub small_start : (grid : Grid) (board : Board) → board ≡ board_of grid → IsGrid grid → (light position : ℕ) → position < length (light_at board light) → (found : Light) → found ≡ light_in grid light
    → (found.start.row ≤ 255) × (found.start.col ≤ 255)
small_start grid board is formed light position below found same =
    let within : position < length (light_at (board_of grid) light) = subst (λ b. position < length (light_at b light)) is below in
    subst (λ (l : Light). (l.start.row ≤ 255) × (l.start.col ≤ 255)) (sym same)
    (inside_small grid (light_in grid light).start formed (light_fits grid light no_light formed (within_lights grid light position within)).start)

-- a light that is found passes through the cell
pub found_at : (grid : Grid) (direction : Direction) (light other cell : ℕ) → index_through (lights_of grid) direction (cell_at grid cell) ≡ Some other → (other ≡ light → ⊥) → IsCrossing (board_of grid) light cell other
found_at grid direction light other cell found apart =
    let at = position-Some (passes direction (cell_at grid cell)) (lights_of grid) other no_light found in
    let within : other < length (lights_of grid) = at.0 in
    let both = and_parts (same_direction (towards grid other) direction) (holds (light_in grid other) (cell_at grid cell)) at.1 in
    let stands = held_step (towards grid other) (light_in grid other).start (light_in grid other).size (cell_at grid cell) both.1 in
    let below : stands.0 < length (light_at (board_of grid) other) = omega (arith, length-light_at grid other within, stands.1) in
    record {
      in_board = omega (arith, length-lights grid, within);
      apart = apart;
      position = stands.0;
      below = below;
      meets = index_is grid other stands.0 below ∙ ap (index_of grid) (sym stands.2) ∙ index_of-cell_at grid cell;
    }

other_is : (light other : ℕ) → (other ≡ light → ⊥) → other_than light (Some other) ≡ Some other
other_is light other apart = rw (ne_eqb other light apart) refl

none_is : (light : ℕ) → other_than light (Some light) ≡ None
none_is light = rw (eq-eqb light light refl) refl

some_same : {a b : ℕ} → Some a ≡ Some b → a ≡ b
some_same e = cc

-- the light that was found, if it is another one
other_gives : (light other : ℕ) (found : Option ℕ) → other_than light found ≡ Some other → (found ≡ Some other) × (other ≡ light → ⊥)
other_gives light other None h = absurd (grind arith)
other_gives light other (Some one) h = go (eqb one light) refl h where
  go : (b : Bool) → eqb one light ≡ b → cond b None (Some one) ≡ Some other → (Some one ≡ Some other) × (other ≡ light → ⊥)
  go true is h = absurd (grind arith)
  go false is h = (h, λ same. both_ways (eqb one light) is (eq-eqb one light (some_same h ∙ same)))

module _ (grid : Grid) (light position : ℕ) (below : position < length (light_at (board_of grid) light)) where
  abbrev here : ℕ
  here = get_or (light_at (board_of grid) light) position 0

  abbrev across : Option ℕ
  across = index_through (lights_of grid) Across (cell_at grid here)

  abbrev down : Option ℕ
  down = index_through (lights_of grid) Down (cell_at grid here)

  pub crossing_is : (other : ℕ) → first_found (other_than light across) (other_than light down) ≡ Some other → IsCrossing (board_of grid) light here other
  crossing_is other found = by_first (other_than light across) refl found where
    by_first : (first : Option ℕ) → other_than light across ≡ first → first_found first (other_than light down) ≡ Some other → IsCrossing (board_of grid) light here other
    by_first (Some one) is h = let at = other_gives light other across (is ∙ h) in found_at grid Across light other here at.0 at.1
    by_first None is h = let at = other_gives light other down h in found_at grid Down light other here at.0 at.1

  by_directions : (first second : Direction) (other : ℕ) → (other ≡ light → ⊥) → index_through (lights_of grid) first (cell_at grid here) ≡ Some light → index_through (lights_of grid) second (cell_at grid here) ≡ Some other
      → first_found (other_than light across) (other_than light down) ≡ Some other
  by_directions Across Across other apart own found = absurd (let e : Some light ≡ Some other = sym own ∙ found in apart (cc))
  by_directions Down Down other apart own found = absurd (let e : Some light ≡ Some other = sym own ∙ found in apart (cc))
  by_directions Across Down other apart own found = ap (λ o. first_found (other_than light o) (other_than light down)) own ∙ ap (λ o. first_found o (other_than light down)) (none_is light) ∙ ap (other_than light) found ∙ other_is light other apart
  by_directions Down Across other apart own found = ap (λ o. first_found (other_than light o) (other_than light down)) found ∙ ap (λ o. first_found o (other_than light down)) (other_is light other apart)

  pub crossing_only : (other : ℕ) → IsCrossing (board_of grid) light here other → first_found (other_than light across) (other_than light down) ≡ Some other
  crossing_only other crossing =
      by_directions (towards grid light) (towards grid other) other crossing.apart (through_at grid light position here below refl) (through_at grid other crossing.position here crossing.below crossing.meets)

-- the two lights through a cell, for the board and the lights of an engine
module _ (grid : Grid) (board : Board) (view : board_of grid ≡ board) (lights : List Light) (same : lights ≡ lights_of grid) (light position : ℕ) (below : position < length (light_at board light))
    (cell : Cell) (at : cell ≡ cell_at grid (get_or (light_at board light) position 0)) (across down : Option ℕ) (is_across : across ≡ index_through lights Across cell) (is_down : down ≡ index_through lights Down cell) where
  abbrev There : Board → Type 0
  There b = position < length (light_at b light) → cell ≡ cell_at grid (get_or (light_at b light) position 0) → (other : ℕ)
      → ((first_found (other_than light across) (other_than light down) ≡ Some other) → IsCrossing b light (get_or (light_at b light) position 0) other)
      × (IsCrossing b light (get_or (light_at b light) position 0) other → first_found (other_than light across) (other_than light down) ≡ Some other)

  crossing_there : There board
  crossing_there =
      subst There view (λ below at other.
      let first : across ≡ index_through (lights_of grid) Across (cell_at grid (get_or (light_at (board_of grid) light) position 0)) = is_across ∙ ap (λ l. index_through l Across cell) same ∙ ap (index_through (lights_of grid) Across) at in
      let second : down ≡ index_through (lights_of grid) Down (cell_at grid (get_or (light_at (board_of grid) light) position 0)) = is_down ∙ ap (λ l. index_through l Down cell) same ∙ ap (index_through (lights_of grid) Down) at in
      let both = ap (λ o. first_found (other_than light o) (other_than light down)) first ∙ ap (λ o. first_found (other_than light (index_through (lights_of grid) Across (cell_at grid (get_or (light_at (board_of grid) light) position 0)))) (other_than light o)) second in
      ((λ found. crossing_is grid light position below other (sym both ∙ found)), (λ crossing. both ∙ crossing_only grid light position below other crossing)))

  pub found_crossing : (other : ℕ) → first_found (other_than light across) (other_than light down) ≡ Some other → IsCrossing board light (get_or (light_at board light) position 0) other
  found_crossing other = (crossing_there below at other).0

  pub only_crossing : (other : ℕ) → IsCrossing board light (get_or (light_at board light) position 0) other → first_found (other_than light across) (other_than light down) ≡ Some other
  only_crossing other = (crossing_there below at other).1

-- if the first search finds a light, that is the result
pub found_first : (first second : Option ℕ) (other : ℕ) → first ≡ Some other → first_found first second ≡ Some other
found_first first second other is = ap (λ o. first_found o second) is

pub found_second : (first second : Option ℕ) → first ≡ None → first_found first second ≡ second
found_second first second is = ap (λ o. first_found o second) is

-- a property of each light that may be found holds for the result
pub each_some : (P : ℕ → Type 0) (found : Option ℕ) → ((other : ℕ) → found ≡ Some other → P other) → IfSome found P
each_some P (Some other) h = h other refl
each_some P None h = tt
