-- What edits change. Edits of letters and of the symmetry keep the lights and the open cells.
use Rattle.std.proofs.Common.{◌≡◌, ℕ, ◌+◌, ◌*◌, ◌<◌, Bool, true, false, cond, not, ◌&&◌, ◌||◌, List, [], ◌∷◌, ◌++◌, map, take, length, get_or, set, Some, None, refl, sym, ◌∙◌, ap, subst, arith, inl, inr, length-set}
use Rattle.std.specs.Prelude.{Option, Result, Ok, Err, slice_get, flat_map, count_by}
use Rattle.std.specs.List.{prefix_len}
use Rattle.std.proofs.lemmas.Bool.{cases_lt, cases_eq, cases_Bool, false≢true}
use Rattle.std.proofs.lemmas.List.{get_or-set_same, get_or-set_other, length-map}
use Rattle.std.proofs.lemmas.Option.{slice_get-get_or, slice_get_past}
use Rattle.xw_grid.specs.declared.cell.Cell.{Cell}
use Rattle.xw_grid.specs.declared.cell.Square.{Square}
use Rattle.xw_grid.specs.declared.cell.Square.TheVariants.{Block, Open}
use Rattle.xw_grid.specs.declared.cell.Side.{Side}
use Rattle.xw_grid.specs.declared.cell.Side.TheVariants.{Right, Below}
use Rattle.xw_grid.specs.declared.cell.Direction.{Direction}
use Rattle.xw_grid.specs.declared.cell.Direction.TheVariants.{Across, Down}
use Rattle.xw_grid.specs.declared.fault.GridFault.{GridFault}
use Rattle.xw_grid.specs.declared.fault.GridFault.TheVariants.{OutOfGrid, OnBlock, NotSquare, Occupied, Border}
use Rattle.xw_grid.specs.declared.lights.Light.{Light}
use Rattle.xw_grid.specs.Grid.{Grid, IsGrid, is_inside, is_open, is_block, is_open_square, is_block_square, is_barred, bars, index_of, cells, square_at}
use Rattle.xw_grid.specs.Light.{side_towards, next, previous, line, extent, lights_of}
use Rattle.xw_grid.specs.Edit.{with_entry, set_entry, with_orbit, with_edges, bars_with, turned, square_of}
use Rattle.xw_grid.specs.Orbit.{is_in_orbit, is_in_edge_orbit}
use Rattle.xw_grid.specs.EditLaws.{SameShape, LettersKeepShape, SymmetryKeepsShape, BlocksChangeOrbits, BarsChangeOrbits}
use Rattle.xw_grid.proofs.GridLemmas.{and-true, index_of-lt, length-cells, get_or-map-cells, cell_at-index_of}
use Rattle.xw_grid.proofs.LightLemmas.{inside_from_open}

-- ---- the lights as a function of the open cells

abbrev joined_with : (Cell → Bool) → Grid → Direction → Cell → Bool
joined_with opens grid direction cell = (opens cell && opens (next direction cell)) && not (is_barred grid cell (side_towards direction))

abbrev begins_with : (Cell → Bool) → Grid → Direction → Cell → Bool
begins_with opens grid direction cell = joined_with opens grid direction cell && not (joined_with opens grid direction (previous direction cell))

abbrev begins_some_with : (Cell → Bool) → Grid → Cell → Bool
begins_some_with opens grid cell = begins_with opens grid Across cell || begins_with opens grid Down cell

abbrev light_with : (Cell → Bool) → Grid → Direction → Cell → Light
light_with opens grid direction cell = record {
  name = record { number = count_by (begins_some_with opens grid) (take (index_of grid cell) (cells grid)) + 1; direction = direction };
  start = cell;
  size = prefix_len (joined_with opens grid direction) (line direction cell (extent grid direction)) + 1;
}

abbrev light_from_with : (Cell → Bool) → Grid → Cell → Direction → List Light
light_from_with opens grid cell direction = cond (begins_with opens grid direction cell) (light_with opens grid direction cell ∷ []) []

abbrev pub lights_with : (Cell → Bool) → Grid → List Light
lights_with opens grid = flat_map (λ cell. light_from_with opens grid cell Across ++ light_from_with opens grid cell Down) (cells grid)

lights_are_with : (grid : Grid) → lights_of grid ≡ lights_with (is_open grid) grid
lights_are_with grid = refl

-- the same open cells give the same lights
pub same_opens : (grid : Grid) (opens : Cell → Bool) → ((cell : Cell) → opens cell ≡ is_open grid cell) → lights_with opens grid ≡ lights_of grid
same_opens grid opens same = ap (λ test. lights_with test grid) (λ i cell. same cell i)

-- ---- writing an entry

-- writing an open square over another keeps which squares are open
open_after : (squares : List Square) (at index : ℕ) (letter : Option ℕ) → at < length squares → is_open_square (slice_get squares at) ≡ true → is_open_square (slice_get (set squares at (Open letter)) index) ≡ is_open_square (slice_get squares index)
open_after squares at index letter below was = elim (cases_lt index (length squares)) [
  | inl inside ↦
      let long = length-set squares at (Open letter) in
      ap is_open_square (slice_get-get_or (set squares at (Open letter)) index Block (omega arith))
      ∙ elim (cases_eq index at) [
        | inl e ↦ ap (λ p. is_open_square (Some (get_or (set squares at (Open letter)) p Block))) e ∙ ap (λ s. is_open_square (Some s)) (get_or-set_same squares at (Open letter) Block below) ∙ sym was ∙ ap (λ p. is_open_square (slice_get squares p)) (sym e)
        | inr apart ↦ ap (λ s. is_open_square (Some s)) (get_or-set_other squares at index (Open letter) Block apart) ∙ sym (ap is_open_square (slice_get-get_or squares index Block inside))
      ]
  | inr past ↦
      let long = length-set squares at (Open letter) in
      ap is_open_square (slice_get_past (set squares at (Open letter)) index (omega arith)) ∙ sym (ap is_open_square (slice_get_past squares index past))
]

entry_opens : (grid : Grid) (cell : Cell) (letter : Option ℕ) → IsGrid grid → is_open grid cell ≡ true → (other : Cell) → is_open (with_entry grid cell letter) other ≡ is_open grid other
entry_opens grid cell letter is open_cell other =
    let inside = inside_from_open grid cell open_cell in
    let below : index_of grid cell < length grid.squares = omega (arith, index_of-lt grid cell inside, is.squares) in
    let was : is_open_square (slice_get grid.squares (index_of grid cell)) ≡ true = ap (λ b. is_open_square (cond b (slice_get grid.squares (index_of grid cell)) None)) (sym inside) ∙ open_cell in
    elim (cases_Bool (is_inside grid other)) [
      | inl here ↦
          ap (λ b. is_open_square (cond b (slice_get (set grid.squares (index_of grid cell) (Open letter)) (index_of grid other)) None)) here
          ∙ open_after grid.squares (index_of grid cell) (index_of grid other) letter below was
          ∙ sym (ap (λ b. is_open_square (cond b (slice_get grid.squares (index_of grid other)) None)) here)
      | inr out ↦
          ap (λ b. is_open_square (cond b (slice_get (set grid.squares (index_of grid cell) (Open letter)) (index_of grid other)) None)) out
          ∙ sym (ap (λ b. is_open_square (cond b (slice_get grid.squares (index_of grid other)) None)) out)
    ]

pub SameShape-entry : (grid : Grid) (cell : Cell) (letter : Option ℕ) → IsGrid grid → is_open grid cell ≡ true → SameShape grid (with_entry grid cell letter)
SameShape-entry grid cell letter is open_cell =
    let opens = entry_opens grid cell letter is open_cell in
    record {
      lights = same_opens grid (is_open (with_entry grid cell letter)) opens;
      opens = opens;
      cells = length-set grid.squares (index_of grid cell) (Open letter);
    }

-- a cell inside the grid that is not a block is open
pub open_from_no_block : (grid : Grid) (cell : Cell) → IsGrid grid → is_inside grid cell ≡ true → is_block grid cell ≡ false → is_open grid cell ≡ true
open_from_no_block grid cell is inside no_block =
    let below : index_of grid cell < length grid.squares = omega (arith, index_of-lt grid cell inside, is.squares) in
    let square : square_at grid cell ≡ Some (get_or grid.squares (index_of grid cell) Block) = ap (λ b. cond b (slice_get grid.squares (index_of grid cell)) None) inside ∙ slice_get-get_or grid.squares (index_of grid cell) Block below in
    ap is_open_square square ∙ by_square (get_or grid.squares (index_of grid cell) Block) (ap is_block_square (sym square) ∙ no_block) where
      by_square : (s : Square) → is_block_square (Some s) ≡ false → is_open_square (Some s) ≡ true
      by_square (Open entered) h = refl
      by_square Block h = absurd (false≢true (sym h))

-- an entry is accepted only for an open cell
accepted_entry : (grid new : Grid) (cell : Cell) (letter : Option ℕ) → IsGrid grid → set_entry grid cell letter ≡ Ok new → (is_open grid cell ≡ true) × (with_entry grid cell letter ≡ new)
accepted_entry grid new cell letter is ok = by_tests (is_inside grid cell) (is_block grid cell) refl refl ok where
  by_tests : (inside block : Bool) → is_inside grid cell ≡ inside → is_block grid cell ≡ block → cond (not inside) (Err OutOfGrid) (cond block (Err OnBlock) (Ok (with_entry grid cell letter))) ≡ Ok new → (is_open grid cell ≡ true) × (with_entry grid cell letter ≡ new)
  by_tests true false inside block h = (open_from_no_block grid cell is inside block, cc)
  by_tests true true inside block h = cc
  by_tests false block' inside block h = cc

pub letters_keep_shape : LettersKeepShape
letters_keep_shape grid new cell letter is ok =
    let found = accepted_entry grid new cell letter is ok in
    subst (SameShape grid) found.1 (SameShape-entry grid cell letter is found.0)

-- ---- setting the symmetry

pub symmetry_keeps_shape : SymmetryKeepsShape
symmetry_keeps_shape grid new kind ok = by_test _ ok where
  by_test : (b : Bool) → cond b (Err NotSquare) (Ok (record grid { symmetry = kind })) ≡ Ok new → SameShape grid new
  by_test true h = cc
  by_test false h =
      let is : record grid { symmetry = kind } ≡ new = cc in
      subst (SameShape grid) is (record { lights = refl; opens = λ cell. refl; cells = refl })

-- ---- orbits

-- a square after its orbit was toggled
painted : (grid : Grid) (cell other : Cell) (blocked : Bool) → is_inside grid other ≡ true → square_at (with_orbit grid cell blocked) other ≡ Some (cond (is_in_orbit grid cell other) (turned blocked (square_of grid other)) (square_of grid other))
painted grid cell other blocked inside =
    let value = λ (at : Cell). cond (is_in_orbit grid cell at) (turned blocked (square_of grid at)) (square_of grid at) in
    let within : index_of grid other < grid.width * grid.height = index_of-lt grid other inside in
    let long : length (map value (cells grid)) ≡ grid.width * grid.height = length-map (cells grid) value ∙ length-cells grid in
    ap (λ b. cond b (slice_get (map value (cells grid)) (index_of grid other)) None) inside
    ∙ slice_get-get_or (map value (cells grid)) (index_of grid other) Block (omega (arith, within, long))
    ∙ ap (λ s. Some s) (get_or-map-cells grid value (index_of grid other) Block within ∙ ap value (cell_at-index_of grid other inside))

pub blocks_change_orbits : BlocksChangeOrbits
blocks_change_orbits old new cell other is ok inside = by_tests _ _ ok where
  by_tests : (out occupied : Bool) → cond {A = Result Grid GridFault} out (Err OutOfGrid) (cond occupied (Err Occupied) (Ok (with_orbit old cell (not (is_block old cell))))) ≡ Ok new → square_at new other ≡ Some (cond (is_in_orbit old cell other) (turned (not (is_block old cell)) (square_of old other)) (square_of old other))
  by_tests true occupied h = cc
  by_tests false true h = cc
  by_tests false false h =
      let is_new : with_orbit old cell (not (is_block old cell)) ≡ new = cc in
      ap (λ g. square_at g other) (sym is_new) ∙ painted old cell other (not (is_block old cell)) inside

-- an edge after its orbit was barred or freed
barred_at : (grid : Grid) (cell other : Cell) (side towards : Side) (barred : Bool) → is_inside grid other ≡ true → get_or (bars_with grid cell side barred towards) (index_of grid other) false ≡ cond (is_in_edge_orbit grid cell side other towards) barred (get_or (bars grid towards) (index_of grid other) false)
barred_at grid cell other side towards barred inside =
    let value = λ (at : Cell). cond (is_in_edge_orbit grid cell side at towards) barred (get_or (bars grid towards) (index_of grid at) false) in
    get_or-map-cells grid value (index_of grid other) false (index_of-lt grid other inside) ∙ ap value (cell_at-index_of grid other inside)

barred_towards : (grid : Grid) (cell other : Cell) (side towards : Side) (barred : Bool) → is_inside grid other ≡ true → get_or (bars (with_edges grid cell side barred) towards) (index_of grid other) false ≡ cond (is_in_edge_orbit grid cell side other towards) barred (get_or (bars grid towards) (index_of grid other) false)
barred_towards grid cell other side Right barred inside = barred_at grid cell other side Right barred inside
barred_towards grid cell other side Below barred inside = barred_at grid cell other side Below barred inside

pub bars_change_orbits : BarsChangeOrbits
bars_change_orbits old new cell other side towards is ok edge = by_tests _ _ ok where
  by_tests : (out border : Bool) → cond {A = Result Grid GridFault} out (Err OutOfGrid) (cond border (Err Border) (Ok (with_edges old cell side (not (is_barred old cell side))))) ≡ Ok new →
      is_barred new other towards ≡ cond (is_in_edge_orbit old cell side other towards) (not (is_barred old cell side)) (is_barred old other towards)
  by_tests true border h = cc
  by_tests false true h = cc
  by_tests false false h =
      let is_new : with_edges old cell side (not (is_barred old cell side)) ≡ new = cc in
      let inside = (and-true (is_inside old other) _ edge).0 in
      ap (λ g. is_barred g other towards) (sym is_new)
      ∙ ap (λ b. b && get_or (bars (with_edges old cell side (not (is_barred old cell side))) towards) (index_of old other) false) edge
      ∙ barred_towards old cell other side towards (not (is_barred old cell side)) inside
      ∙ ap (λ b. cond (is_in_edge_orbit old cell side other towards) (not (is_barred old cell side)) (b && get_or (bars old towards) (index_of old other) false)) (sym edge)
