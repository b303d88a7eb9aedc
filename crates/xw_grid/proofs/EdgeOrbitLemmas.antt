-- The orbit of an edge is the least set that contains it and is closed under the move of its two cells.
use Rattle.std.proofs.Common.{◌≡◌, Bool, true, false, ◌&&◌, ◌||◌, refl, ap, sym, subst, ◌∙◌, inl, inr}
use Rattle.xw_grid.specs.declared.cell.Cell.{Cell}
use Rattle.xw_grid.specs.declared.cell.Edge.{Edge}
use Rattle.xw_grid.specs.declared.cell.Side.{Side}
use Rattle.xw_grid.specs.declared.cell.Side.TheVariants.{Right, Below}
use Rattle.xw_grid.specs.Grid.{Grid, IsGrid, is_inside, is_edge, beyond, same_cell, same_side}
use Rattle.xw_grid.specs.Orbit.{moved, is_between, is_in_edge_orbit, IsEdgeBetween, AreNeighbours, InEdgeOrbit, edge_itself, edge_image, EdgeOrbitIsLeast}
use Rattle.xw_grid.proofs.EdgeLemmas.{swapped, moved_neighbours, between_again, both, is_between-IsEdgeBetween, the_edge, one_of_four}
use Rattle.xw_grid.proofs.GridLemmas.{and-true, IsInside-is_inside, same_cell_itself, cells_same}
use Rattle.xw_grid.proofs.OrbitCellLemmas.{moved_inside}
use Rattle.xw_grid.proofs.OrbitLemmas.{four_moves, or_cases, or_right}

-- if an edge lies between two cells, then the edge between the images of its own cells lies between the images of those two
between_images : (grid : Grid) (a b : Cell) (edge next : Edge) → IsEdgeBetween a b edge → IsEdgeBetween (moved grid a) (moved grid b) next → IsEdgeBetween (moved grid edge.cell) (moved grid (beyond edge.side edge.cell)) next
between_images grid a b edge next (inl h) there =
    let P : Cell → Cell → Type 0 = λ x y. IsEdgeBetween (moved grid x) (moved grid y) next in
    subst (λ (x : Cell). P x (beyond edge.side edge.cell)) (sym h.0) (subst (P a) (sym h.1) there)
between_images grid a b edge next (inr h) there =
    let P : Cell → Cell → Type 0 = λ x y. IsEdgeBetween (moved grid x) (moved grid y) next in
    subst (λ (x : Cell). P x (beyond edge.side edge.cell)) (sym h.0) (subst (P b) (sym h.1) (swapped (moved grid a) (moved grid b) next there))

same_side_itself : (side : Side) → same_side side side ≡ true
same_side_itself Right = refl
same_side_itself Below = refl

-- the test `is_between` tells whether an edge lies between two cells: both directions
told : (a b : Cell) (edge : Edge) → IsEdgeBetween a b edge → is_between edge.cell edge.side (a, b) ≡ true
told a b edge h =
    is_between-IsEdgeBetween edge.cell edge.side a b edge h ∙ both (same_side edge.side edge.side) (same_cell edge.cell edge.cell) (same_side_itself edge.side) (same_cell_itself edge.cell)

lies : (a b : Cell) (edge : Edge) → is_between edge.cell edge.side (a, b) ≡ true → IsEdgeBetween a b edge
lies a b edge h =
    let far = beyond edge.side edge.cell in
    elim (or_cases (same_cell edge.cell a && same_cell far b) (same_cell edge.cell b && same_cell far a) h) [
      | inl e ↦ let two = and-true (same_cell edge.cell a) (same_cell far b) e in inl (cells_same edge.cell a two.0, cells_same far b two.1)
      | inr e ↦ let two = and-true (same_cell edge.cell b) (same_cell far a) e in inr (cells_same edge.cell b two.0, cells_same far a two.1)
    ]

-- one true disjunct of four is enough
first_of : (p q r s : Bool) → p ≡ true → (p || (q || (r || s))) ≡ true
first_of p q r s h = ap (λ x. x || (q || (r || s))) h

second_of : (p q r s : Bool) → q ≡ true → (p || (q || (r || s))) ≡ true
second_of p q r s h = ap (λ x. p || (x || (r || s))) h ∙ or_right p

third_of : (p q r s : Bool) → r ≡ true → (p || (q || (r || s))) ≡ true
third_of p q r s h = ap (λ x. p || (q || (x || s))) h ∙ ap (λ x. p || x) (or_right q) ∙ or_right p

fourth_of : (p q r s : Bool) → s ≡ true → (p || (q || (r || s))) ≡ true
fourth_of p q r s h = ap (λ x. p || (q || (r || x))) h ∙ ap (λ x. p || (q || x)) (or_right r) ∙ ap (λ x. p || x) (or_right q) ∙ or_right p

module _ (grid : Grid) (edge : Edge) (is : IsGrid grid) (inner : is_edge grid edge.cell edge.side ≡ true) where
  abbrev m : Cell → Cell
  m = moved grid

  abbrev a : Cell
  a = edge.cell

  abbrev b : Cell
  b = beyond edge.side edge.cell

  -- whether an edge lies between the images of the two cells after 0, 1, 2 and 3 moves
  abbrev at0 : Edge → Bool
  at0 other = is_between other.cell other.side (a, b)

  abbrev at1 : Edge → Bool
  at1 other = is_between other.cell other.side (m a, m b)

  abbrev at2 : Edge → Bool
  at2 other = is_between other.cell other.side (m (m a), m (m b))

  abbrev at3 : Edge → Bool
  at3 other = is_between other.cell other.side (m (m (m a)), m (m (m b)))

  inside : (is_inside grid a ≡ true) × (is_inside grid b ≡ true)
  inside = and-true (is_inside grid a) (is_inside grid b) inner

  -- four moves return to the start
  back : (cell : Cell) → is_inside grid cell ≡ true → m (m (m (m cell))) ≡ cell
  back cell in_cell =
      let at = IsInside-is_inside grid cell in_cell in
      four_moves grid.symmetry grid.width grid.height cell at.row_high at.col_high is.turned

  closed : (member next : Edge) → is_in_edge_orbit grid edge.cell edge.side member.cell member.side ≡ true → IsEdgeBetween (m member.cell) (m (beyond member.side member.cell)) next →
      is_in_edge_orbit grid edge.cell edge.side next.cell next.side ≡ true
  closed member next h there =
      elim (one_of_four (at0 member) (at1 member) (at2 member) (at3 member) h) [
        | inl h ↦ second_of (at0 next) (at1 next) (at2 next) (at3 next || false) (told (m a) (m b) next (between_again grid a b member next (lies a b member h) there))
        | inr h ↦ elim h [
          | inl h ↦ third_of (at0 next) (at1 next) (at2 next) (at3 next || false) (told (m (m a)) (m (m b)) next (between_again grid (m a) (m b) member next (lies (m a) (m b) member h) there))
          | inr h ↦ elim h [
            | inl h ↦
                let now : at3 next ≡ true = told (m (m (m a))) (m (m (m b))) next (between_again grid (m (m a)) (m (m b)) member next (lies (m (m a)) (m (m b)) member h) there) in
                fourth_of (at0 next) (at1 next) (at2 next) (at3 next || false) (ap (λ x. x || false) now)
            | inr h ↦
                let now : IsEdgeBetween (m (m (m (m a)))) (m (m (m (m b)))) next = between_again grid (m (m (m a))) (m (m (m b))) member next (lies (m (m (m a))) (m (m (m b))) member h) there in
                let home : IsEdgeBetween a b next = subst (λ (x : Cell). IsEdgeBetween x b next) (back a inside.0) (subst (λ (y : Cell). IsEdgeBetween (m (m (m (m a)))) y next) (back b inside.1) now) in
                first_of (at0 next) (at1 next) (at2 next) (at3 next || false) (told a b next home)
          ]
        ]
      ]

  in_least : (other : Edge) → InEdgeOrbit grid edge other → is_in_edge_orbit grid edge.cell edge.side other.cell other.side ≡ true
  in_least _ edge_itself = first_of (at0 edge) (at1 edge) (at2 edge) (at3 edge || false) (told a b edge (inl (refl, refl)))
  in_least _ (edge_image member next h there) = closed member next (in_least member h) there

  from_least : (other : Edge) → is_in_edge_orbit grid edge.cell edge.side other.cell other.side ≡ true → InEdgeOrbit grid edge other
  from_least other h =
      let near1 = moved_inside grid a is inside.0 in
      let far1 = moved_inside grid b is inside.1 in
      let near2 = moved_inside grid (m a) is near1 in
      let far2 = moved_inside grid (m b) is far1 in
      let e0 : AreNeighbours a b = (edge, inl (refl, refl)) in
      let e1 = moved_neighbours grid a b is inside.0 inside.1 e0 in
      let e2 = moved_neighbours grid (m a) (m b) is near1 far1 e1 in
      let e3 = moved_neighbours grid (m (m a)) (m (m b)) is near2 far2 e2 in
      let in1 : InEdgeOrbit grid edge e1.0 = edge_image edge e1.0 edge_itself e1.1 in
      let in2 : InEdgeOrbit grid edge e2.0 = edge_image e1.0 e2.0 in1 (between_images grid (m a) (m b) e1.0 e2.0 e1.1 e2.1) in
      let in3 : InEdgeOrbit grid edge e3.0 = edge_image e2.0 e3.0 in2 (between_images grid (m (m a)) (m (m b)) e2.0 e3.0 e2.1 e3.1) in
      elim (one_of_four (at0 other) (at1 other) (at2 other) (at3 other) h) [
        | inl h ↦ subst (InEdgeOrbit grid edge) (the_edge a b edge other.cell other.side e0.1 h) edge_itself
        | inr h ↦ elim h [
          | inl h ↦ subst (InEdgeOrbit grid edge) (the_edge (m a) (m b) e1.0 other.cell other.side e1.1 h) in1
          | inr h ↦ elim h [
            | inl h ↦ subst (InEdgeOrbit grid edge) (the_edge (m (m a)) (m (m b)) e2.0 other.cell other.side e2.1 h) in2
            | inr h ↦ subst (InEdgeOrbit grid edge) (the_edge (m (m (m a))) (m (m (m b))) e3.0 other.cell other.side e3.1 h) in3
          ]
        ]
      ]

pub edge_orbit_is_least : EdgeOrbitIsLeast
edge_orbit_is_least grid edge other is inner = (from_least grid edge is inner other, in_least grid edge is inner other)
