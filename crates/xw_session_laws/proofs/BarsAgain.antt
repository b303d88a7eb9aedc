-- The bar commands of a record, on a grid without symmetry.
use Rattle.std.proofs.Common.{◌≡◌, ℕ, ◌*◌, ◌+◌, ◌<◌, Bool, true, false, not, ◌&&◌, eqb, List, [], ◌∷◌, length, map, get_or, set, replicate, Some, refl, sym, ◌∙◌, ap, inl, length-set, arith}
use Rattle.std.specs.Prelude.{Ok, Err, slice_index_or, if◌then◌else◌}
use Rattle.std.proofs.lemmas.List.{length-map, length-replicate, get_or-replicate, get_or_default, same_lists}
use Rattle.xw_grid.specs.declared.cell.Cell.{Cell}
use Rattle.xw_grid.specs.declared.cell.Side.{Side}
use Rattle.xw_grid.specs.declared.cell.Side.TheVariants.{Right, Below}
use Rattle.xw_grid.specs.declared.cell.Square.{Square}
use Rattle.xw_grid.specs.declared.cell.Symmetry.TheVariants as kinds
use Rattle.xw_grid.specs.declared.fault.GridFault.TheVariants.{OutOfGrid, Border}
use Rattle.xw_grid.specs.Grid.{Grid, IsGrid, is_inside, index_of, cell_at, cells, same_cell, same_side, beyond, is_edge, bars, is_barred}
use Rattle.xw_grid.specs.Edit.{bars_with, with_edges}
use Rattle.xw_grid.specs.Orbit.{is_between, is_in_edge_orbit}
use Rattle.xw_grid.specs.Clue.{ClueMap}
use Rattle.xw_grid.proofs.EdgeLemmas.{is_between-IsEdgeBetween}
use Rattle.xw_grid.proofs.GridLemmas.{cell_at-inside, index_of-cell_at, same_cell-cell_at, get_set, length-cells, get_or-map-cells}
use Rattle.xw_feas.specs.State.{with_grid as state_with_grid, by_fault}
use Rattle.xw_commands.specs.declared.change.Change.TheVariants as changes
use Rattle.xw_answers.specs.declared.record.Part.TheVariants as parts
use Rattle.xw_session.specs.State.{SessionState}
use Rattle.xw_session.specs.Reply.{moved}
use Rattle.xw_answers.specs.Record.{spot_of, cell_commands, part_commands}
use Rattle.xw_session_laws.specs.Replay.{state_left, replayed, with_grid, BarsAreOnEdges}
use Rattle.xw_session_laws.proofs.Replaying.{next_done}
use Rattle.xw_session_laws.proofs.CellsAgain.{each_cell_again, mixed, mixed_more, mixed_next, mixed_same, mixed_all, length-mixed, four_times}

-- ---- the orbit of an edge is the edge alone

edge_alone : (grid : Grid) (cell other : Cell) (side towards : Side) → grid.symmetry ≡ kinds.None
    → is_in_edge_orbit grid cell side other towards ≡ (same_side side towards && same_cell other cell)
edge_alone grid cell other side towards alone =
    four_of grid.symmetry alone ∙ is_between-IsEdgeBetween other towards cell (beyond side cell) (record { cell = cell; side = side }) (inl (refl, refl)) where
      four_of : (kind : _) → kind ≡ kinds.None → is_in_edge_orbit (record grid { symmetry = kind }) cell side other towards ≡ is_between other towards (cell, beyond side cell)
      four_of kinds.None e = four_times (is_between other towards (cell, beyond side cell))
      four_of kinds.Half e = cc
      four_of kinds.Quarter e = cc
      four_of kinds.LeftRight e = cc
      four_of kinds.UpDown e = cc

module _ (grid : Grid) (k : ℕ) (side towards : Side) (alone : grid.symmetry ≡ kinds.None) (inside : is_inside grid (cell_at grid k) ≡ true) (long : length (bars grid towards) ≡ grid.width * grid.height) where
  abbrev value : Cell → Bool
  value other = if is_in_edge_orbit grid (cell_at grid k) side other towards then true else slice_index_or (bars grid towards) (index_of grid other) false

  size : length (map value (cells grid)) ≡ grid.width * grid.height
  size = length-map (cells grid) value ∙ length-cells grid

  bar_at : (j : ℕ) (d : Bool) → j < grid.width * grid.height → get_or (map value (cells grid)) j d ≡ (if same_side side towards && eqb j k then true else get_or (bars grid towards) j d)
  bar_at j d here =
      let cell = cell_at grid k in
      let same : same_cell (cell_at grid j) cell ≡ eqb j k = same_cell-cell_at grid j cell inside ∙ ap (eqb j) (index_of-cell_at grid k) in
      let tests : is_in_edge_orbit grid cell side (cell_at grid j) towards ≡ (same_side side towards && eqb j k) = edge_alone grid cell (cell_at grid j) side towards alone ∙ ap (λ b. same_side side towards && b) same in
      let at : slice_index_or (bars grid towards) (index_of grid (cell_at grid j)) false ≡ get_or (bars grid towards) j d =
      ap (λ n. get_or (bars grid towards) n false) (index_of-cell_at grid j) ∙ get_or_default (bars grid towards) j false d (omega (arith, here, long)) in
      get_or-map-cells grid value j d here
      ∙ ap (λ b. if b then true else slice_index_or (bars grid towards) (index_of grid (cell_at grid j)) false) tests
      ∙ ap (λ b. if same_side side towards && eqb j k then true else b) at

  bar_set : same_side side towards ≡ true → bars_with grid (cell_at grid k) side true towards ≡ set (bars grid towards) k true
  bar_set same =
      same_lists (map value (cells grid)) (set (bars grid towards) k true) (size ∙ sym long ∙ sym (length-set (bars grid towards) k true)) (λ j d within.
      let here : j < grid.width * grid.height = omega (arith, within, size) in
      bar_at j d here ∙ ap (λ b. if b && eqb j k then true else get_or (bars grid towards) j d) same ∙ sym (get_set (bars grid towards) k true j d (omega (arith, here, long))))

  bars_kept : same_side side towards ≡ false → bars_with grid (cell_at grid k) side true towards ≡ bars grid towards
  bars_kept other =
      same_lists (map value (cells grid)) (bars grid towards) (size ∙ sym long) (λ j d within.
      bar_at j d (omega (arith, within, size)) ∙ ap (λ b. if b && eqb j k then true else get_or (bars grid towards) j d) other)

barred_edge : (state : SessionState) (inside edge is_bar : Bool) (to : Bool → Grid) → inside ≡ true → edge ≡ true → is_bar ≡ false
    → state_left (moved state (state_with_grid state.engine (by_fault (if not inside then Err OutOfGrid else if not edge then Err Border else Ok (to (not is_bar)))))) ≡ Some (with_grid state (to true))
barred_edge state true true false to p q r = refl
barred_edge state true true true to p q r = cc
barred_edge state true false is_bar to p q r = cc
barred_edge state false edge is_bar to p q r = cc

-- ---- the bars on one side of the cells

module _ (state : SessionState) (made : Grid) (is : IsGrid made) (only : BarsAreOnEdges made) (squares : List Square) where
  abbrev none : List Bool
  none = replicate (made.width * made.height) false

  none_long : length none ≡ made.width * made.height
  none_long = length-replicate (made.width * made.height) false

  bit_of : (side : Side) (cell : Cell) (edge : Bool) → is_inside made cell ≡ true → is_edge made cell side ≡ edge → (edge && slice_index_or (bars made side) (index_of made cell) false) ≡ slice_index_or (bars made side) (index_of made cell) false
  bit_of side cell true inside e = refl
  bit_of side cell false inside e = sym (only side cell inside e)

  bit_at : (side : Side) (k : ℕ) → k < made.width * made.height → is_barred made (cell_at made k) side ≡ get_or (bars made side) k false
  bit_at side k here = bit_of side (cell_at made k) (is_edge made (cell_at made k) side) (cell_at-inside made k is here) refl ∙ ap (λ n. get_or (bars made side) n false) (index_of-cell_at made k)

  edge_of : (edge bit : Bool) → (edge && bit) ≡ true → edge ≡ true
  edge_of true bit e = refl
  edge_of false bit e = cc

  -- the next edge has no bar yet
  free_at : (now : List Bool) (k : ℕ) (edge : Bool) → edge ≡ true → get_or now k false ≡ false → (edge && slice_index_or now (index_of made (cell_at made k)) false) ≡ false
  free_at now k edge there free =
      ap (λ b. b && slice_index_or now (index_of made (cell_at made k)) false) there ∙ ap (λ n. get_or now n false) (index_of-cell_at made k) ∙ free

  module _ (rest : List Bool) (rest_long : length rest ≡ made.width * made.height) where
    abbrev righted : ℕ → Grid
    righted k = record made { squares = squares; right = mixed made.right none k; below = rest; symmetry = kinds.None }

    abbrev lowered : ℕ → Grid
    lowered k = record made { squares = squares; right = rest; below = mixed made.below none k; symmetry = kinds.None }

    right_long : length made.right ≡ length none
    right_long = is.right ∙ sym none_long

    below_long : length made.below ≡ length none
    below_long = is.below ∙ sym none_long

    module _ (k : ℕ) (here : k < made.width * made.height) where
      in_grid : is_inside made (cell_at made k) ≡ true
      in_grid = cell_at-inside made k is here

      none_at : get_or none k false ≡ false
      none_at = get_or-replicate (made.width * made.height) k false false here

      right_step : (b : Bool) → is_barred made (cell_at made k) Right ≡ b → replayed (with_grid state (righted k)) (if b then changes.Bar (spot_of (cell_at made k)) Right ∷ [] else []) ≡ Some (with_grid state (righted (k + 1)))
      right_step false e =
          ap (λ bits. Some (with_grid state (record made { squares = squares; right = bits; below = rest; symmetry = kinds.None })))
          (sym (mixed_same made.right none right_long k false (omega (arith, here, is.right)) (none_at ∙ sym (sym (bit_at Right k here) ∙ e))))
      right_step true e =
          let now = righted k in
          let cell = cell_at made k in
          let within : k < length made.right = omega (arith, here, is.right) in
          let long : length now.right ≡ made.width * made.height = length-mixed made.right none right_long k false within ∙ is.right in
          let edge : is_edge made cell Right ≡ true = edge_of (is_edge made cell Right) _ e in
          let more : set now.right k true ≡ mixed made.right none (k + 1) = ap (set now.right k) (sym (sym (bit_at Right k here) ∙ e)) ∙ sym (mixed_more made.right none right_long k false within) in
          next_done (with_grid state now) (with_grid state (righted (k + 1))) (changes.Bar (spot_of cell) Right) []
          (barred_edge (with_grid state now) (is_inside made cell) (is_edge made cell Right) (is_barred now cell Right) (with_edges now cell Right) in_grid edge (free_at now.right k (is_edge made cell Right) edge (mixed_next made.right none right_long k false within ∙ none_at))
          ∙ ap (λ bits. Some (with_grid state (record now { right = bits; below = bars_with now cell Right true Below }))) (bar_set now k Right Right refl in_grid long refl ∙ more)
          ∙ ap (λ bits. Some (with_grid state (record now { right = mixed made.right none (k + 1); below = bits }))) (bars_kept now k Right Below refl in_grid rest_long refl))

      below_step : (b : Bool) → is_barred made (cell_at made k) Below ≡ b → replayed (with_grid state (lowered k)) (if b then changes.Bar (spot_of (cell_at made k)) Below ∷ [] else []) ≡ Some (with_grid state (lowered (k + 1)))
      below_step false e =
          ap (λ bits. Some (with_grid state (record made { squares = squares; right = rest; below = bits; symmetry = kinds.None })))
          (sym (mixed_same made.below none below_long k false (omega (arith, here, is.below)) (none_at ∙ sym (sym (bit_at Below k here) ∙ e))))
      below_step true e =
          let now = lowered k in
          let cell = cell_at made k in
          let within : k < length made.below = omega (arith, here, is.below) in
          let long : length now.below ≡ made.width * made.height = length-mixed made.below none below_long k false within ∙ is.below in
          let edge : is_edge made cell Below ≡ true = edge_of (is_edge made cell Below) _ e in
          let more : set now.below k true ≡ mixed made.below none (k + 1) = ap (set now.below k) (sym (sym (bit_at Below k here) ∙ e)) ∙ sym (mixed_more made.below none below_long k false within) in
          next_done (with_grid state now) (with_grid state (lowered (k + 1))) (changes.Bar (spot_of cell) Below) []
          (barred_edge (with_grid state now) (is_inside made cell) (is_edge made cell Below) (is_barred now cell Below) (with_edges now cell Below) in_grid edge (free_at now.below k (is_edge made cell Below) edge (mixed_next made.below none below_long k false within ∙ none_at))
          ∙ ap (λ bits. Some (with_grid state (record now { right = bars_with now cell Below true Right; below = bits }))) (bar_set now k Below Below refl in_grid long refl ∙ more)
          ∙ ap (λ bits. Some (with_grid state (record now { right = bits; below = mixed made.below none (k + 1) }))) (bars_kept now k Below Right refl in_grid rest_long refl))

    pub right_again : (clues : ClueMap) (circles : List Cell) → replayed (with_grid state (record made { squares = squares; right = replicate (made.width * made.height) false; below = rest; symmetry = kinds.None })) (part_commands made clues circles (parts.Bars Right))
        ≡ Some (with_grid state (record made { squares = squares; below = rest; symmetry = kinds.None }))
    right_again clues circles =
        each_cell_again made (cell_commands made clues circles (parts.Bars Right)) (λ k. with_grid state (righted k)) (λ k here. right_step k here (is_barred made (cell_at made k) Right) refl)
        ∙ ap (λ bits. Some (with_grid state (record made { squares = squares; right = bits; below = rest; symmetry = kinds.None }))) (mixed_all made.right none (made.width * made.height) right_long (sym is.right))

    pub below_again : (clues : ClueMap) (circles : List Cell) → replayed (with_grid state (record made { squares = squares; right = rest; below = replicate (made.width * made.height) false; symmetry = kinds.None })) (part_commands made clues circles (parts.Bars Below))
        ≡ Some (with_grid state (record made { squares = squares; right = rest; symmetry = kinds.None }))
    below_again clues circles =
        each_cell_again made (cell_commands made clues circles (parts.Bars Below)) (λ k. with_grid state (lowered k)) (λ k here. below_step k here (is_barred made (cell_at made k) Below) refl)
        ∙ ap (λ bits. Some (with_grid state (record made { squares = squares; right = rest; below = bits; symmetry = kinds.None }))) (mixed_all made.below none (made.width * made.height) below_long (sym is.below))
