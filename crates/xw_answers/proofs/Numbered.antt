-- A block that is toggled changes which cells have a number in its rows and in those beside them only.
use Rattle.std.proofs.Common.{◌≡◌, ◌∙◌, ℕ, ◌+◌, ◌*◌, ◌<◌, ◌≤◌, Bool, true, false, cond, not, refl, sym, ap, subst, arith, inl, inr, Some, None, get_or, length, length-set, set, List, ◌≢◌, ◌-◌, ◌/◌, div-lt_iff_lt-mul, le-div_iff_mul-le}
use Rattle.std.specs.Prelude.{◌⊎◌, Option, Ok, Err, Contains, slice_get}
use Rattle.std.proofs.lemmas.Bool.{cases_Bool, cases_eq, false_from_ne_true}
use Rattle.std.proofs.lemmas.List.{get_or-set_same}
use Rattle.std.proofs.lemmas.List.Elements.{All-contains}
use Rattle.std.proofs.lemmas.List.FromFn.{get_or-map-range_with_len}
use Rattle.std.proofs.lemmas.Option.{slice_get-get_or, slice_get_within}
use Rattle.xw_grid.specs.declared.cell.Cell.{Cell}
use Rattle.xw_grid.specs.declared.cell.Direction.{Direction}
use Rattle.xw_grid.specs.declared.cell.Direction.TheVariants.{Across, Down}
use Rattle.xw_grid.specs.declared.cell.Square.TheVariants.{Block}
use Rattle.xw_grid.specs.declared.fault.GridFault.TheVariants.{OutOfGrid, Occupied}
use Rattle.xw_grid.specs.Edit.{square_of, toggle_block, turned, with_orbit}
use Rattle.xw_grid.specs.Grid.{Grid, IsGrid, cell_at, cells, index_of, is_block, is_inside, is_open, is_open_square, square_at}
use Rattle.xw_grid.specs.Light.{begins, begins_some, next, previous}
use Rattle.xw_grid.specs.Orbit.{is_in_orbit, orbit_of}
use Rattle.xw_grid.proofs.ChangeLemmas.{blocks_change_orbits}
use Rattle.xw_grid.proofs.GridLemmas.{cell_at-index_of, index_of-lt, length-cells}
use Rattle.xw_feas.proofs.Elements.{contains_filtered, slice_get-set_other}
use Rattle.xw_answers.specs.Numbering.{AreApart, AreNumbered, IsApart}

module _ (grid : Grid) (cell : Cell) (blocked : Bool) (is : IsGrid grid) (inside : is_inside grid cell ≡ true) (made : toggle_block grid cell ≡ Ok (with_orbit grid cell blocked)) (row : ℕ) (apart : IsApart grid cell row) where
  abbrev new : Grid
  new = with_orbit grid cell blocked

  -- no cell in the row, or in one beside it, is in the orbit
  off : (other : Cell) → is_inside grid other ≡ true → row ≤ other.row + 1 → other.row ≤ row + 1 → is_in_orbit grid cell other ≡ false
  off other here low high =
      let k = index_of grid other in
      let within : k < length (cells grid) = omega (arith, index_of-lt grid other here, length-cells grid) in
      let at : get_or (cells grid) k other ≡ other = get_or-map-range_with_len (cell_at grid) 0 (grid.width * grid.height) k k other (index_of-lt grid other here) (omega arith) ∙ cell_at-index_of grid other here in
      let among : is_in_orbit grid cell other ≡ true → Contains (orbit_of grid cell) other = λ member. rw inside (contains_filtered (is_in_orbit grid cell) (cells grid) other (k, within, at) member) in
      false_from_ne_true (is_in_orbit grid cell other) (λ member.
      elim (All-contains (AreApart row) (orbit_of grid cell) other apart (among member)) [
        | inl lt ↦ absurd (omega (arith, lt, high))
        | inr lt ↦ absurd (omega (arith, lt, low))
      ])

  -- such a cell stays open, or does not
  opens : (other : Cell) → row ≤ other.row + 1 → other.row ≤ row + 1 → is_open new other ≡ is_open grid other
  opens other low high = elim (cases_Bool (is_inside grid other)) [
    | inl here ↦
        let was : square_at grid other ≡ Some (square_of grid other) =
        ap (λ b. cond b (slice_get grid.squares (index_of grid other)) None) here ∙ slice_get-get_or grid.squares (index_of grid other) Block (omega (arith, index_of-lt grid other here, is.squares)) in
        ap is_open_square (blocks_change_orbits grid new cell other is made here ∙ ap (λ b. Some (cond b (turned (not (is_block grid cell)) (square_of grid other)) (square_of grid other))) (off other here low high) ∙ sym was)
    | inr out ↦
        ap (λ b. is_open_square (cond b (slice_get new.squares (index_of grid other)) None)) out ∙ sym (ap (λ b. is_open_square (cond b (slice_get grid.squares (index_of grid other)) None)) out)
  ]

  begins_same : (direction : Direction) (other : Cell) → other.row ≡ row → begins new direction other ≡ begins grid direction other
  begins_same Across other at =
      rw (opens other (omega (arith, at)) (omega (arith, at)), opens (next Across other) (omega (arith, at)) (omega (arith, at)), opens (previous Across other) (omega (arith, at)) (omega (arith, at)), opens (next Across (previous Across other)) (omega (arith, at)) (omega (arith, at))) refl
  begins_same Down other at =
      rw (opens other (omega (arith, at)) (omega (arith, at)), opens (next Down other) (omega (arith, at)) (omega (arith, at)), opens (previous Down other) (omega (arith, at)) (omega (arith, at)), opens (next Down (previous Down other)) (omega (arith, at)) (omega (arith, at))) refl

-- whether a cell of such a row has a number stays as it is
pub numbers_stay : (grid new : Grid) (cell : Cell) (index : ℕ) → IsGrid grid → toggle_block grid cell ≡ Ok new → IsApart grid cell (cell_at grid index).row → begins_some new (cell_at new index) ≡ begins_some grid (cell_at grid index)
numbers_stay grid new cell index is ok apart = by_tests (is_inside grid cell) _ refl ok where
  by_tests : (inside occupied : Bool) → is_inside grid cell ≡ inside → cond (not inside) (Err OutOfGrid) (cond occupied (Err Occupied) (Ok (with_orbit grid cell (not (is_block grid cell))))) ≡ Ok new
      → begins_some new (cell_at new index) ≡ begins_some grid (cell_at grid index)
  by_tests false occupied inside h = cc
  by_tests true true inside h = cc
  by_tests true false inside h =
      let is_new : with_orbit grid cell (not (is_block grid cell)) ≡ new = cc in
      subst (λ (g : Grid). begins_some g (cell_at g index) ≡ begins_some grid (cell_at grid index)) is_new
      (let same : (direction : Direction) → begins (with_orbit grid cell (not (is_block grid cell))) direction (cell_at grid index) ≡ begins grid direction (cell_at grid index) = λ direction. begins_same grid cell (not (is_block grid cell)) is inside (ok ∙ ap Ok (sym is_new)) (cell_at grid index).row apart direction (cell_at grid index) refl in rw (same Across, same Down) refl)

-- ---- what is known

-- a fact is found where it was written, and else there is what was there
module _ {X : Type 0} (facts : List X) (at : ℕ) (fact : X) where
  set_found : (index : ℕ) (found : X) → slice_get (set facts at fact) index ≡ Some found → ((index ≡ at) × (fact ≡ found)) ⊎ ((index ≢ at) × (slice_get facts index ≡ Some found))
  set_found index found is = elim (cases_eq index at) [
    | inl here ↦
        let within : at < length facts = omega (arith, here, length-set facts at fact, slice_get_within (set facts at fact) index found is) in
        let there : slice_get (set facts at fact) at ≡ Some found = subst (λ k. slice_get (set facts at fact) k ≡ Some found) here is in
        let wrote : slice_get (set facts at fact) at ≡ Some fact = slice_get-get_or (set facts at fact) at fact (omega (arith, length-set facts at fact, within)) ∙ ap Some (get_or-set_same facts at fact fact within) in
        let same : Some fact ≡ Some found = sym wrote ∙ there in
        inl (here, cc)
    | inr apart ↦ inr (apart, sym (slice_get-set_other facts at index fact apart) ∙ is)
  ]

-- one more fact is known
pub known_more : (grid : Grid) (known : List (Option Bool)) (at : ℕ) (fact : Bool) → fact ≡ begins_some grid (cell_at grid at) → AreNumbered grid known → AreNumbered grid (set known at (Some fact))
known_more grid known at fact holds facts index is found = elim (set_found known at (Some fact) index (Some is) found) [
  | inl (here, same) ↦ let e : fact ≡ is = cc in ap (λ k. begins_some grid (cell_at grid k)) here ∙ sym holds ∙ e
  | inr (apart, was) ↦ facts index is was
]

-- cells as far before or after the rows of a member are in other rows
pub row_apart : (width index row : ℕ) → 0 < width → (index < (row - 2) * width) ⊎ ((row + 1) * width ≤ index) → (index / width + 1 + 1 < row) ⊎ (row + 1 < index / width + 1)
row_apart width index row wide (inl lt) = let below : index / width < row - 2 = (div-lt_iff_lt-mul wide).1 lt in inl (omega (arith, below))
row_apart width index row wide (inr le) = let past : row + 1 ≤ index / width = (le-div_iff_mul-le wide).1 le in inr (omega (arith, past))
