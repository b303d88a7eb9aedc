-- Every edit leaves bars only on inner edges.
use Rattle.std.proofs.Common.{◌≡◌, ◌⊎◌, ℕ, zero, suc, ◌*◌, ◌<◌, Bool, true, false, ◌||◌, get_or, replicate, refl, sym, ◌∙◌, ap, inl, inr}
use Rattle.std.specs.Prelude.{slice_index_or, if◌then◌else◌}
use Rattle.std.proofs.lemmas.Bool.{true≢false}
use Rattle.xw_grid.specs.declared.cell.Cell.{Cell}
use Rattle.xw_grid.specs.declared.cell.Edge.{Edge}
use Rattle.xw_grid.specs.declared.cell.Side.{Side}
use Rattle.xw_grid.specs.declared.cell.Side.TheVariants.{Right, Below}
use Rattle.xw_grid.specs.Grid.{Grid, IsGrid, is_inside, is_edge, index_of, beyond, same_side, same_cell, bars}
use Rattle.xw_grid.specs.Edit.{blank, bars_with, with_edges}
use Rattle.xw_grid.specs.Orbit.{moved, is_between, IsEdgeBetween, AreNeighbours, is_in_edge_orbit}
use Rattle.xw_grid.proofs.OrbitCellLemmas.{moved_inside}
use Rattle.xw_grid.proofs.GridLemmas.{and-true, index_of-lt, cell_at-index_of, cells_same, get_or-map-cells}
use Rattle.xw_grid.proofs.EdgeLemmas.{moved_neighbours, is_edge-inside, is_between-IsEdgeBetween}
use Rattle.xw_session_laws.specs.Replay.{BarsAreOnEdges}

-- ---- the edges of an orbit are inner edges

same_side_is : (one other : Side) → same_side one other ≡ true → one ≡ other
same_side_is Right Right e = refl
same_side_is Right Below e = cc
same_side_is Below Right e = cc
same_side_is Below Below e = refl

one_of_four : (a b c d : Bool) → (a || (b || (c || (d || false)))) ≡ true → (a ≡ true) ⊎ ((b ≡ true) ⊎ ((c ≡ true) ⊎ (d ≡ true)))
one_of_four true b c d h = inl refl
one_of_four false true c d h = inr (inl refl)
one_of_four false false true d h = inr (inr (inl refl))
one_of_four false false false true h = inr (inr (inr refl))
one_of_four false false false false h = cc

module _ (grid : Grid) (other : Cell) (towards : Side) where
  edge_between : (a b : Cell) (edge : Edge) → is_inside grid a ≡ true → is_inside grid b ≡ true → IsEdgeBetween a b edge → is_between other towards (a, b) ≡ true → is_edge grid other towards ≡ true
  edge_between a b edge in_a in_b between h =
      let both = and-true (same_side edge.side towards) (same_cell other edge.cell) (sym (is_between-IsEdgeBetween other towards a b edge between) ∙ h) in
      ap (λ c. is_edge grid c towards) (cells_same other edge.cell both.1)
      ∙ ap (is_edge grid edge.cell) (sym (same_side_is edge.side towards both.0))
      ∙ is_edge-inside grid a b edge in_a in_b between

  in_orbit_edge : (cell : Cell) (side : Side) → IsGrid grid → is_edge grid cell side ≡ true → is_in_edge_orbit grid cell side other towards ≡ true → is_edge grid other towards ≡ true
  in_orbit_edge cell side is edge h =
      let m = moved grid in
      let far = beyond side cell in
      let inside = and-true (is_inside grid cell) (is_inside grid far) edge in
      let near1 = moved_inside grid cell is inside.0 in
      let far1 = moved_inside grid far is inside.1 in
      let near2 = moved_inside grid (m cell) is near1 in
      let far2 = moved_inside grid (m far) is far1 in
      let near3 = moved_inside grid (m (m cell)) is near2 in
      let far3 = moved_inside grid (m (m far)) is far2 in
      let e0 : AreNeighbours cell far = (record { cell = cell; side = side }, inl (refl, refl)) in
      let e1 = moved_neighbours grid cell far is inside.0 inside.1 e0 in
      let e2 = moved_neighbours grid (m cell) (m far) is near1 far1 e1 in
      let e3 = moved_neighbours grid (m (m cell)) (m (m far)) is near2 far2 e2 in
      elim (one_of_four (is_between other towards (cell, far)) (is_between other towards (m cell, m far)) (is_between other towards (m (m cell), m (m far))) (is_between other towards (m (m (m cell)), m (m (m far)))) h) [
        | inl h ↦ edge_between cell far e0.0 inside.0 inside.1 e0.1 h
        | inr h ↦ elim h [
          | inl h ↦ edge_between (m cell) (m far) e1.0 near1 far1 e1.1 h
          | inr h ↦ elim h [
            | inl h ↦ edge_between (m (m cell)) (m (m far)) e2.0 near2 far2 e2.1 h
            | inr h ↦ edge_between (m (m (m cell))) (m (m (m far))) e3.0 near3 far3 e3.1 h
          ]
        ]
      ]

-- ---- bars after an edit

bars_are : (grid : Grid) (cell : Cell) (side : Side) (barred : Bool) (towards : Side) → bars (with_edges grid cell side barred) towards ≡ bars_with grid cell side barred towards
bars_are grid cell side barred Right = refl
bars_are grid cell side barred Below = refl

not_true : (a : Bool) (P : Bool → Type 0) → (a ≡ true → ⊥) → P false → P a
not_true false P never p = p
not_true true P never p = absurd (never refl)

pub edges_kept : (grid : Grid) (cell : Cell) (side : Side) (barred : Bool) → IsGrid grid → is_edge grid cell side ≡ true → BarsAreOnEdges grid → BarsAreOnEdges (with_edges grid cell side barred)
edges_kept grid cell side barred is edge only towards other inside no_edge =
    let i = index_of grid other in
    let below : i < grid.width * grid.height = index_of-lt grid other inside in
    let value : Cell → Bool = λ c. if is_in_edge_orbit grid cell side c towards then barred else slice_index_or (bars grid towards) (index_of grid c) false in
    let out : is_in_edge_orbit grid cell side other towards ≡ true → ⊥ = λ h. true≢false (sym (in_orbit_edge grid other towards cell side is edge h) ∙ no_edge) in
    ap (λ bits. slice_index_or bits i false) (bars_are grid cell side barred towards)
    ∙ get_or-map-cells grid value i false below
    ∙ ap value (cell_at-index_of grid other inside)
    ∙ not_true (is_in_edge_orbit grid cell side other towards) (λ b. (if b then barred else slice_index_or (bars grid towards) i false) ≡ false) out (only towards other inside no_edge)

none_set : (n k : ℕ) → get_or (replicate n false) k false ≡ false
none_set zero k = refl
none_set (suc n) zero = refl
none_set (suc n) (suc k) = none_set n k

pub blank_edges : (width height : ℕ) → BarsAreOnEdges (blank width height)
blank_edges width height Right other inside no_edge = none_set (width * height) (index_of (blank width height) other)
blank_edges width height Below other inside no_edge = none_set (width * height) (index_of (blank width height) other)
