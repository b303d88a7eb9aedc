-- Matching the lights of two grids of the same width by their cells.
use Rattle.std.proofs.Common.{◌≡◌, ℕ, suc, ◌+◌, ◌*◌, ◌-◌, ◌<◌, true, List, [], ◌∷◌, map, length, get_or, Some, None, refl, sym, ◌∙◌, ap, arith, inl, inr}
use Rattle.std.specs.Prelude.{Option, is_some, slice_get, option_and_then}
use Rattle.std.specs.Cmp.Lexicographic.{pointwise}
use Rattle.std.proofs.lemmas.Bool.{false≢true, cases_Bool, both_ways}
use Rattle.std.proofs.lemmas.List.Quantifiers.{position-Some}
use Rattle.std.proofs.lemmas.Option.{slice_get-get_or, slice_get_within, get_or_from_slice_get}
use Rattle.xw_text.proofs.Position.{position_is_some, position-None}
use Rattle.xw_grid.specs.declared.cell.Cell.{Cell}
use Rattle.xw_grid.specs.declared.lights.Light.{Light}
use Rattle.xw_grid.specs.Grid.{Grid, is_inside, same_cell, index_of, cell_in}
use Rattle.xw_grid.specs.Light.{cells_of, lights_of, no_light, have_same_cells, index_with_cells}
use Rattle.xw_grid.proofs.GridLemmas.{and-true, cells_same, same_cell_itself, cell_at-index_of}
use Rattle.xw_grid.proofs.LightLemmas.{size_of_light, length-line, get_or-line}
use Rattle.xw_grid.proofs.OrderLemmas.{same_index}
use Rattle.xw_grid.proofs.LookupLemmas.{alike}
use Rattle.xw_grid.proofs.LightTableLemmas.{light_inside}
use Rattle.xw_feas.specs.Board.{board_of, indices_of, light_at}
use Rattle.xw_feas.proofs.BoardLemmas.{light_at-board, length-lights}
use Rattle.xw_net.specs.Revival.{IsMatching, same_light}

cells_are : (xs ys : List Cell) → pointwise same_cell xs ys ≡ true → xs ≡ ys
cells_are [] [] h = refl
cells_are [] (y ∷ ys) h = absurd (false≢true h)
cells_are (x ∷ xs) [] h = absurd (false≢true h)
cells_are (x ∷ xs) (y ∷ ys) h =
    let both = and-true (same_cell x y) (pointwise same_cell xs ys) h in
    ap (λ c. c ∷ xs) (cells_same x y both.0) ∙ ap (λ cs. y ∷ cs) (cells_are xs ys both.1)

cells_themselves : (xs : List Cell) → pointwise same_cell xs xs ≡ true
cells_themselves [] = refl
cells_themselves (x ∷ xs) = rw (same_cell_itself x) (cells_themselves xs)

-- if the lights stay, each of them is found among those before
pub none_new : (before after : List Light) → after ≡ before → (light : ℕ) → light < length after → option_and_then (index_with_cells before) (slice_get after light) ≡ None → ⊥
none_new before after same light within none =
    let this = get_or after light no_light in
    let nowhere : index_with_cells after this ≡ None = ap (option_and_then (index_with_cells after)) (sym (slice_get-get_or after light no_light within)) ∙ ap (λ lights. option_and_then (index_with_cells lights) (slice_get after light)) same ∙ none in
    both_ways (have_same_cells this this) (position-None (have_same_cells this) after nowhere light no_light within) (cells_themselves (cells_of this))

pub some_old : (before after : List Light) → after ≡ before → (light : ℕ) → light < length after → true ≡ is_some (option_and_then (index_with_cells before) (slice_get after light))
some_old before after same light within = split (option_and_then (index_with_cells before) (slice_get after light)) refl where
  split : (o : Option ℕ) → option_and_then (index_with_cells before) (slice_get after light) ≡ o → true ≡ is_some o
  split None none = absurd (none_new before after same light within none)
  split (Some other) at = refl

-- the cells of a list of indices
back : (grid : Grid) (cells : List Cell) → ((k : ℕ) → k < length cells → (d : Cell) → is_inside grid (get_or cells k d) ≡ true) → map (cell_in grid.width) (map (index_of grid) cells) ≡ cells
back grid [] inside = refl
back grid (cell ∷ cells) inside =
    ap (λ c. c ∷ map (cell_in grid.width) (map (index_of grid) cells)) (cell_at-index_of grid cell (inside 0 (omega arith) cell))
    ∙ ap (λ cs. cell ∷ cs) (back grid cells (λ k below d. inside (suc k) (omega arith) d))

light_back : (grid : Grid) (index : ℕ) → index < length (lights_of grid) → map (cell_in grid.width) (indices_of grid (get_or (lights_of grid) index no_light)) ≡ cells_of (get_or (lights_of grid) index no_light)
light_back grid index within =
    let light = get_or (lights_of grid) index no_light in
    back grid (cells_of light) (λ k below d.
    let under : k < light.size = omega (arith, length-line light.name.direction light.start light.size) in
    ap (is_inside grid) (get_or-line light.name.direction light.start light.size k d under) ∙ light_inside grid index no_light within k under)

module _ (before after : Grid) (wide : after.width ≡ before.width) where
  -- the light that matches another
  abbrev IsFound : ℕ → ℕ → Type 0
  IsFound light other = (light < length (lights_of after)) × (other < length (lights_of before)) × (cells_of (get_or (lights_of after) light no_light) ≡ cells_of (get_or (lights_of before) other no_light))

  found : (light other : ℕ) → same_light before after light ≡ Some other → IsFound light other
  found light other h = split (slice_get (lights_of after) light) refl h where
    split : (o : Option Light) → slice_get (lights_of after) light ≡ o → option_and_then (index_with_cells (lights_of before)) o ≡ Some other → IsFound light other
    split None at g = cc
    split (Some this) at g =
        let first = position-Some (have_same_cells this) (lights_of before) other no_light g in
        (slice_get_within (lights_of after) light this at, first.0, ap cells_of (get_or_from_slice_get (lights_of after) light this no_light at) ∙ cells_are (cells_of this) (cells_of (get_or (lights_of before) other no_light)) first.1)

  pub same_is_matching : IsMatching (board_of before) (board_of after) (same_light before after)
  same_is_matching = record {
    lights = λ light other in_board at. omega (arith, (found light other at).1, length-lights before);
    cells = λ light other in_board at.
        let is = found light other at in
        light_at-board after light no_light is.0
        ∙ ap (λ w. map (λ (cell : Cell). (cell.row - 1) * w + (cell.col - 1)) (cells_of (get_or (lights_of after) light no_light))) wide
        ∙ ap (map (index_of before)) is.2
        ∙ sym (light_at-board before other no_light is.1);
  }

  -- lights with the same cells match
  pub same_is_whole : (light other : ℕ) → light < length (board_of after).lights → other < length (board_of before).lights → light_at (board_of after) light ≡ light_at (board_of before) other → same_light before after light ≡ Some other
  same_is_whole light other in_after in_before same =
      let within : light < length (lights_of after) = omega (arith, length-lights after) in
      let within' : other < length (lights_of before) = omega (arith, length-lights before) in
      let this = get_or (lights_of after) light no_light in
      let that = get_or (lights_of before) other no_light in
      let cells : cells_of this ≡ cells_of that =
      sym (light_back after light within)
      ∙ ap (map (cell_in after.width)) (sym (light_at-board after light no_light within) ∙ same ∙ light_at-board before other no_light within')
      ∙ ap (λ w. map (cell_in w) (indices_of before that)) wide
      ∙ light_back before other within' in
      let several = size_of_light after light no_light within in
      let fits : have_same_cells this that ≡ true = ap (pointwise same_cell (cells_of this)) (sym cells) ∙ cells_themselves (cells_of this) in
      let kind = alike this that several fits in
      ap (option_and_then (index_with_cells (lights_of before))) (slice_get-get_or (lights_of after) light no_light within)
      ∙ position_is_some (have_same_cells this) (lights_of before) other no_light within' (λ k before_it. elim (cases_Bool (have_same_cells this (get_or (lights_of before) k no_light))) [
        | inr differs ↦ differs
        | inl fits' ↦
            let kind' = alike this (get_or (lights_of before) k no_light) several fits' in
            let index : k ≡ other = same_index before k other no_light (omega arith) within' (sym kind'.0 ∙ kind.0) (sym kind'.1 ∙ kind.1) in
            absurd (omega arith)
      ]) fits
