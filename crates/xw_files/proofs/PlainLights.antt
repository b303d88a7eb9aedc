-- A grid without bars has the same lights as the grid built from its squares.
use Rattle.std.proofs.Common.{◌≡◌, ℕ, zero, suc, ◌+◌, ◌*◌, ◌<◌, Bool, true, false, not, cond, ◌&&◌, ◌||◌, List, [], ◌∷◌, ◌++◌, take, length, get_or, replicate, refl, sym, ap, ◌∙◌, arith}
use Rattle.std.specs.Prelude.{flat_map, count_by}
use Rattle.std.specs.List.{list_any, prefix_len}
use Rattle.std.proofs.lemmas.List.FromFn.{get_or-map-range_with_len}
use Rattle.xw_grid.specs.declared.cell.Cell.{Cell}
use Rattle.xw_grid.specs.declared.cell.Square.{Square}
use Rattle.xw_grid.specs.declared.cell.Side.{Side}
use Rattle.xw_grid.specs.declared.cell.Side.TheVariants.{Right, Below}
use Rattle.xw_grid.specs.declared.cell.Direction.{Direction}
use Rattle.xw_grid.specs.declared.cell.Direction.TheVariants.{Across, Down}
use Rattle.xw_grid.specs.declared.lights.Light.{Light}
use Rattle.xw_grid.specs.Grid.{Grid, cells, cell_at, index_of, is_inside, is_edge, is_barred, is_open, beyond, bars}
use Rattle.xw_grid.specs.Edit.{grid_of}
use Rattle.xw_grid.specs.Light.{next, previous, side_towards, is_joined, line, extent, lights_of}
use Rattle.xw_grid.proofs.GridLemmas.{length-cells, index_of-lt, cell_at-index_of}
use Rattle.xw_files.specs.Finished.{has_bar, is_barred_cell}

-- the grid with the same squares, without bars and symmetry
abbrev pub plain_of : Grid → Grid
plain_of grid = grid_of grid.width grid.height grid.squares

pub or-false : (a b : Bool) → (a || b) ≡ false → (a ≡ false) × (b ≡ false)
or-false true b e = cc
or-false false b e = (refl, e)

any-false : {A : Type 0} (p : A → Bool) (xs : List A) (k : ℕ) (d : A) → list_any p xs ≡ false → k < length xs → p (get_or xs k d) ≡ false
any-false p [] k d e h = absurd (omega arith)
any-false p (x ∷ xs) zero d e h = (or-false (p x) (list_any p xs) e).0
any-false p (x ∷ xs) (suc k) d e h = any-false p xs k d (or-false (p x) (list_any p xs) e).1 (omega arith)

-- no edge of the grid is barred
no_bar : (grid : Grid) → has_bar grid ≡ false → (cell : Cell) (side : Side) → is_barred grid cell side ≡ false
no_bar grid none cell side =
    elim (is_inside grid cell) as (λ b. is_inside grid cell ≡ b → is_barred grid cell side ≡ false) [
      | true ↦ λ inside.
          let at = get_or-map-range_with_len (cell_at grid) 0 (grid.width * grid.height) (index_of grid cell) (index_of grid cell) cell (index_of-lt grid cell inside) (omega arith) ∙ cell_at-index_of grid cell inside in
          let here : is_barred_cell grid cell ≡ false = ap (is_barred_cell grid) (sym at) ∙ any-false (is_barred_cell grid) (cells grid) (index_of grid cell) cell none (omega (arith, length-cells grid, index_of-lt grid cell inside)) in
          let both = or-false (is_barred grid cell Right) (is_barred grid cell Below) here in
          elim side as (λ s. is_barred grid cell s ≡ false) [ Right ↦ both.0 | Below ↦ both.1 ]
      | false ↦ λ outside. ap (λ b. (b && is_inside grid (beyond side cell)) && get_or (bars grid side) (index_of grid cell) false) outside
    ] refl

and-no : (b : Bool) → (b && false) ≡ false
and-no true = refl
and-no false = refl

get_or-none : (n k : ℕ) → get_or (replicate n false) k false ≡ false
get_or-none zero k = refl
get_or-none (suc n) zero = refl
get_or-none (suc n) (suc k) = get_or-none n k

plain_bar : (grid : Grid) (cell : Cell) (side : Side) → is_barred (plain_of grid) cell side ≡ false
plain_bar grid cell Right = ap (λ b. is_edge (plain_of grid) cell Right && b) (get_or-none (grid.width * grid.height) (index_of grid cell)) ∙ and-no (is_edge (plain_of grid) cell Right)
plain_bar grid cell Below = ap (λ b. is_edge (plain_of grid) cell Below && b) (get_or-none (grid.width * grid.height) (index_of grid cell)) ∙ and-no (is_edge (plain_of grid) cell Below)

none-pass : (p : Cell → Bool) → ((c : Cell) → p c ≡ false) → (cs : List Cell) → list_any p cs ≡ false
none-pass p fails [] = refl
none-pass p fails (c ∷ cs) = rw (fails c) (none-pass p fails cs)

-- a grid built from squares has no bar
pub no_bar_made : (width height : ℕ) (squares : List Square) → has_bar (grid_of width height squares) ≡ false
no_bar_made width height squares =
    let grid : Grid = grid_of width height squares in
    none-pass (is_barred_cell grid) (λ c. rw (plain_bar grid c Right, plain_bar grid c Below) refl) (cells grid)

joined-same : (grid : Grid) → ((cell : Cell) (side : Side) → is_barred grid cell side ≡ false) → (direction : Direction) (cell : Cell) → is_joined grid direction cell ≡ is_joined (plain_of grid) direction cell
joined-same grid none direction cell =
    ap (λ b. (is_open grid cell && is_open grid (next direction cell)) && not b) (none cell (side_towards direction) ∙ sym (plain_bar grid cell (side_towards direction)))

-- lights, given by which cells are joined
abbrev begins_by : (Direction → Cell → Bool) → Direction → Cell → Bool
begins_by joined direction cell = joined direction cell && not (joined direction (previous direction cell))

abbrev light_by : Grid → (Direction → Cell → Bool) → Cell → Direction → List Light
light_by grid joined cell direction = cond (begins_by joined direction cell) (record {
  name = record { number = count_by (λ other. begins_by joined Across other || begins_by joined Down other) (take (index_of grid cell) (cells grid)) + 1; direction = direction };
  start = cell;
  size = prefix_len (joined direction) (line direction cell (extent grid direction)) + 1;
} ∷ []) []

abbrev lights_by : Grid → (Direction → Cell → Bool) → List Light
lights_by grid joined = flat_map (λ cell. light_by grid joined cell Across ++ light_by grid joined cell Down) (cells grid)

pub plain_lights : (grid : Grid) → has_bar grid ≡ false → lights_of grid ≡ lights_of (plain_of grid)
plain_lights grid none =
    let e : is_joined grid ≡ is_joined (plain_of grid) = λ i. λ direction cell. joined-same grid (no_bar grid none) direction cell i in
    ap (lights_by grid) e
