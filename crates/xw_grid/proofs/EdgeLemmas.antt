-- Lemmas about edges and their images under a symmetry.
use Rattle.std.proofs.Common.{◌≡◌, ℕ, suc, ◌*◌, ◌<◌, ◌≤◌, Bool, true, false, cond, ◌&&◌, ◌||◌, eqb, List, [], ◌∷◌, map, length, get_or, set, length-set, refl, ap, sym, subst, ◌∙◌, inl, inr, ◌⊎◌, lit<, arith}
use Rattle.std.specs.Prelude.{All, fold}
use Rattle.xw_grid.specs.Edit.{with_bar, with_edges, bars_with}
use Rattle.std.specs.List.{list_any}
use Rattle.std.proofs.lemmas.List.{length-map, same_lists, get_or_default}
use Rattle.std.proofs.lemmas.Bool.Decides.{nat_tests}
use Rattle.xw_grid.specs.declared.cell.Cell.{Cell}
use Rattle.xw_grid.specs.declared.cell.Edge.{Edge}
use Rattle.xw_grid.specs.declared.cell.Side.{Side}
use Rattle.xw_grid.specs.declared.cell.Side.TheVariants.{Right, Below}
use Rattle.xw_grid.specs.declared.cell.Symmetry.{Symmetry}
use Rattle.xw_grid.specs.declared.cell.Symmetry.TheVariants as kinds
use Rattle.xw_grid.specs.Grid.{Grid, IsGrid, is_inside, is_edge, index_of, cell_at, cells, beyond, same_cell, same_side}
use Rattle.xw_grid.specs.Orbit.{moved_by, moved, images_of, is_between, IsEdgeBetween, AreNeighbours, AreEdgesBetween, EdgeOrbitsAreSmall}
use Rattle.xw_grid.proofs.OrbitCellLemmas.{moved_inside}
use Rattle.xw_grid.proofs.GridLemmas.{and-true, IsInside-is_inside, same_cell_itself, cells_same, same_cell-cell_at, get_set, get_or-map-cells, length-cells, index_of-cell_at, any_of_four}

same_col : (row : ℕ) (c d : ℕ) → c ≡ d → ◌≡◌ {A = Cell} (record { row = row; col = c }) (record { row = row; col = d })
same_col row c d e = ap (λ col. record { row = row; col = col }) e

same_line : (col : ℕ) (r s : ℕ) → r ≡ s → ◌≡◌ {A = Cell} (record { row = r; col = col }) (record { row = s; col = col })
same_line col r s e = ap (λ row. record { row = row; col = col }) e

-- a symmetry moves neighbours to neighbours
moved_beyond : (kind : Symmetry) (width height : ℕ) (cell : Cell) (side : Side) → (beyond side cell).row ≤ height → (beyond side cell).col ≤ width → (kind ≡ kinds.Quarter → width ≡ height) → AreNeighbours (moved_by kind width height cell) (moved_by kind width height (beyond side cell))
moved_beyond kinds.None width height cell side low left turned = (record { cell = cell; side = side }, inl (refl, refl))
moved_beyond kinds.Half width height cell Right low left turned = (record { cell = moved_by kinds.Half width height (beyond Right cell); side = Right }, inr (refl, same_col _ _ _ (omega arith)))
moved_beyond kinds.Half width height cell Below low left turned = (record { cell = moved_by kinds.Half width height (beyond Below cell); side = Below }, inr (refl, same_line _ _ _ (omega arith)))
moved_beyond kinds.Quarter width height cell Right low left turned = (record { cell = moved_by kinds.Quarter width height cell; side = Below }, inl (refl, refl))
moved_beyond kinds.Quarter width height cell Below low left turned =
    let square : width ≡ height = turned refl in
    (record { cell = moved_by kinds.Quarter width height (beyond Below cell); side = Right }, inr (refl, same_col _ _ _ (omega arith)))
moved_beyond kinds.LeftRight width height cell Right low left turned = (record { cell = moved_by kinds.LeftRight width height (beyond Right cell); side = Right }, inr (refl, same_col _ _ _ (omega arith)))
moved_beyond kinds.LeftRight width height cell Below low left turned = (record { cell = moved_by kinds.LeftRight width height cell; side = Below }, inl (refl, refl))
moved_beyond kinds.UpDown width height cell Right low left turned = (record { cell = moved_by kinds.UpDown width height cell; side = Right }, inl (refl, refl))
moved_beyond kinds.UpDown width height cell Below low left turned = (record { cell = moved_by kinds.UpDown width height (beyond Below cell); side = Below }, inr (refl, same_line _ _ _ (omega arith)))

pub swapped : (a b : Cell) (edge : Edge) → IsEdgeBetween a b edge → IsEdgeBetween b a edge
swapped a b edge (inl h) = inr h
swapped a b edge (inr h) = inl h

pub moved_neighbours : (grid : Grid) (a b : Cell) → IsGrid grid → is_inside grid a ≡ true → is_inside grid b ≡ true → AreNeighbours a b → AreNeighbours (moved grid a) (moved grid b)
moved_neighbours grid a b is in_a in_b (edge, inl h) =
    let inside = IsInside-is_inside grid b in_b in
    let P : Cell → Cell → Type 0 = λ x y. AreNeighbours (moved grid x) (moved grid y) in
    let row : (beyond edge.side edge.cell).row ≤ grid.height = rw h.1 inside.row_high in
    let col : (beyond edge.side edge.cell).col ≤ grid.width = rw h.1 inside.col_high in
    subst (P a) h.1 (subst (λ (x : Cell). P x (beyond edge.side edge.cell)) h.0 (moved_beyond grid.symmetry grid.width grid.height edge.cell edge.side row col is.turned))
moved_neighbours grid a b is in_a in_b (edge, inr h) =
    let inside = IsInside-is_inside grid a in_a in
    let P : Cell → Cell → Type 0 = λ x y. AreNeighbours (moved grid x) (moved grid y) in
    let row : (beyond edge.side edge.cell).row ≤ grid.height = rw h.1 inside.row_high in
    let col : (beyond edge.side edge.cell).col ≤ grid.width = rw h.1 inside.col_high in
    let there : P b a = subst (P b) h.1 (subst (λ (x : Cell). P x (beyond edge.side edge.cell)) h.0 (moved_beyond grid.symmetry grid.width grid.height edge.cell edge.side row col is.turned)) in
    (there.0, swapped (moved grid b) (moved grid a) there.0 there.1)

pub edge_inside : (grid : Grid) (a b : Cell) (edge : Edge) → is_inside grid a ≡ true → is_inside grid b ≡ true → IsEdgeBetween a b edge → is_inside grid edge.cell ≡ true
edge_inside grid a b edge in_a in_b (inl h) = rw h.0 in_a
edge_inside grid a b edge in_a in_b (inr h) = rw h.0 in_b

-- the image of an edge between two cells is between the images of these cells
pub between_again : (grid : Grid) (a b : Cell) (edge image : Edge) → IsEdgeBetween a b edge → IsEdgeBetween (moved grid edge.cell) (moved grid (beyond edge.side edge.cell)) image → IsEdgeBetween (moved grid a) (moved grid b) image
between_again grid a b edge image (inl h) there =
    let P : Cell → Cell → Type 0 = λ x y. IsEdgeBetween (moved grid x) (moved grid y) image in
    subst (P a) h.1 (subst (λ (x : Cell). P x (beyond edge.side edge.cell)) h.0 there)
between_again grid a b edge image (inr h) there =
    let P : Cell → Cell → Type 0 = λ x y. IsEdgeBetween (moved grid x) (moved grid y) image in
    swapped (moved grid b) (moved grid a) image (subst (P b) h.1 (subst (λ (x : Cell). P x (beyond edge.side edge.cell)) h.0 there))

pub both : (a b : Bool) → a ≡ true → b ≡ true → (a && b) ≡ true
both a b h k = rw (h, k) refl

pub is_edge-inside : (grid : Grid) (a b : Cell) (edge : Edge) → is_inside grid a ≡ true → is_inside grid b ≡ true → IsEdgeBetween a b edge → is_edge grid edge.cell edge.side ≡ true
is_edge-inside grid a b edge in_a in_b (inl h) = both (is_inside grid edge.cell) (is_inside grid (beyond edge.side edge.cell)) (edge_inside grid a b edge in_a in_b (inl h)) (rw h.1 in_b)
is_edge-inside grid a b edge in_a in_b (inr h) = both (is_inside grid edge.cell) (is_inside grid (beyond edge.side edge.cell)) (edge_inside grid a b edge in_a in_b (inr h)) (rw h.1 in_a)

-- a cell differs from the next one and from the one after that
same_cell-beyond : (cell : Cell) (side : Side) → same_cell cell (beyond side cell) ≡ false
same_cell-beyond cell Right = grind (arith, nat_tests)
same_cell-beyond cell Below = grind (arith, nat_tests)

beyond-twice : (a b : Cell) (s t : Side) → b ≡ beyond s a → same_cell (beyond t b) a ≡ false
beyond-twice a b Right Right e = rw e (grind (arith, nat_tests))
beyond-twice a b Right Below e = rw e (grind (arith, nat_tests))
beyond-twice a b Below Right e = rw e (grind (arith, nat_tests))
beyond-twice a b Below Below e = rw e (grind (arith, nat_tests))

beyond_sides : (cell : Cell) (s t : Side) → same_cell (beyond s cell) (beyond t cell) ≡ same_side t s
beyond_sides cell Right Right = same_cell_itself (beyond Right cell)
beyond_sides cell Below Below = same_cell_itself (beyond Below cell)
beyond_sides cell Right Below = grind (arith, nat_tests)
beyond_sides cell Below Right = grind (arith, nat_tests)

or-false_is : (b : Bool) → (b || false) ≡ (b && true)
or-false_is true = refl
or-false_is false = refl

and-false_is : (b : Bool) → false ≡ (b && false)
and-false_is true = refl
and-false_is false = refl

-- exactly one edge is between two cells
is_between-edge : (cell : Cell) (t : Side) (near : Cell) (side : Side) → is_between cell t (near, beyond side near) ≡ (same_side side t && same_cell cell near)
is_between-edge cell t near side =
    elim (same_cell cell near) as (λ s. same_cell cell near ≡ s → ((s && same_cell (beyond t cell) (beyond side near)) || (same_cell cell (beyond side near) && same_cell (beyond t cell) near)) ≡ (same_side side t && s)) [
      | true ↦ λ e.
          let P : Cell → Type 0 = λ x. (same_cell (beyond t x) (beyond side near) || (same_cell x (beyond side near) && same_cell (beyond t x) near)) ≡ (same_side side t && true) in
          let at : P near =
          ap (λ b. b || (same_cell near (beyond side near) && same_cell (beyond t near) near)) (beyond_sides near t side)
          ∙ ap (λ b. same_side side t || (b && same_cell (beyond t near) near)) (same_cell-beyond near side)
          ∙ or-false_is (same_side side t) in
          subst P (sym (cells_same cell near e)) at
      | false ↦ λ e.
          elim (same_cell cell (beyond side near)) as (λ s. same_cell cell (beyond side near) ≡ s → (s && same_cell (beyond t cell) near) ≡ (same_side side t && false)) [
            | true ↦ λ f. beyond-twice near cell side t (cells_same cell (beyond side near) f) ∙ and-false_is (same_side side t)
            | false ↦ λ f. and-false_is (same_side side t)
          ] refl
    ] refl

or_comm : (a b : Bool) → (a || b) ≡ (b || a)
or_comm true true = refl
or_comm true false = refl
or_comm false true = refl
or_comm false false = refl

pub is_between-IsEdgeBetween : (cell : Cell) (t : Side) (a b : Cell) (edge : Edge) → IsEdgeBetween a b edge → is_between cell t (a, b) ≡ (same_side edge.side t && same_cell cell edge.cell)
is_between-IsEdgeBetween cell t a b edge (inl h) =
    ap (λ x. is_between cell t (x, b)) (sym h.0) ∙ ap (λ y. is_between cell t (edge.cell, y)) (sym h.1) ∙ is_between-edge cell t edge.cell edge.side
is_between-IsEdgeBetween cell t a b edge (inr h) =
    or_comm (same_cell cell a && same_cell (beyond t cell) b) (same_cell cell b && same_cell (beyond t cell) a)
    ∙ ap (λ x. is_between cell t (x, a)) (sym h.0) ∙ ap (λ y. is_between cell t (edge.cell, y)) (sym h.1) ∙ is_between-edge cell t edge.cell edge.side

-- one list of bars after one edge was written
abbrev written : Side → List Bool → ℕ → Bool → Side → List Bool
written side bars index barred t = cond (same_side side t) (set bars index barred) bars

length-written : (side : Side) (bars : List Bool) (index : ℕ) (barred : Bool) (t : Side) → length (written side bars index barred t) ≡ length bars
length-written side bars index barred t = elim (same_side side t) as (λ s. length (cond s (set bars index barred) bars) ≡ length bars) [ true ↦ length-set bars index barred | false ↦ refl ]

get_written : (side : Side) (bars : List Bool) (index : ℕ) (barred : Bool) (t : Side) (k : ℕ) (d : Bool) → k < length bars → get_or (written side bars index barred t) k d ≡ cond (same_side side t && eqb k index) barred (get_or bars k d)
get_written side bars index barred t k d within = elim (same_side side t) as (λ s. get_or (cond s (set bars index barred) bars) k d ≡ cond (s && eqb k index) barred (get_or bars k d)) [ true ↦ get_set bars index barred k d within | false ↦ refl ]

-- writing four edges, each between two cells, sets these edges and keeps the others
pub write_four : (grid : Grid) (bars : List Bool) (barred d : Bool) (t : Side) (a1 b1 a2 b2 a3 b3 a4 b4 : Cell) (e1 e2 e3 e4 : Edge) → length bars ≡ grid.width * grid.height →
    is_inside grid e1.cell ≡ true → is_inside grid e2.cell ≡ true → is_inside grid e3.cell ≡ true → is_inside grid e4.cell ≡ true →
    IsEdgeBetween a1 b1 e1 → IsEdgeBetween a2 b2 e2 → IsEdgeBetween a3 b3 e3 → IsEdgeBetween a4 b4 e4 →
    written e4.side (written e3.side (written e2.side (written e1.side bars (index_of grid e1.cell) barred t) (index_of grid e2.cell) barred t) (index_of grid e3.cell) barred t) (index_of grid e4.cell) barred t
    ≡ map (λ cell. cond (list_any (is_between cell t) ((a1, b1) ∷ (a2, b2) ∷ (a3, b3) ∷ (a4, b4) ∷ [])) barred (get_or bars (index_of grid cell) d)) (cells grid)
write_four grid bars barred d t a1 b1 a2 b2 a3 b3 a4 b4 e1 e2 e3 e4 long in1 in2 in3 in4 h1 h2 h3 h4 =
    let one = written e1.side bars (index_of grid e1.cell) barred t in
    let two = written e2.side one (index_of grid e2.cell) barred t in
    let three = written e3.side two (index_of grid e3.cell) barred t in
    let four = written e4.side three (index_of grid e4.cell) barred t in
    let f = λ (cell : Cell). cond (list_any (is_between cell t) ((a1, b1) ∷ (a2, b2) ∷ (a3, b3) ∷ (a4, b4) ∷ [])) barred (get_or bars (index_of grid cell) d) in
    let long1 : length one ≡ grid.width * grid.height = length-written e1.side bars (index_of grid e1.cell) barred t ∙ long in
    let long2 : length two ≡ grid.width * grid.height = length-written e2.side one (index_of grid e2.cell) barred t ∙ long1 in
    let long3 : length three ≡ grid.width * grid.height = length-written e3.side two (index_of grid e3.cell) barred t ∙ long2 in
    let long4 : length four ≡ grid.width * grid.height = length-written e4.side three (index_of grid e4.cell) barred t ∙ long3 in
    same_lists four (map f (cells grid)) (long4 ∙ sym (length-map (cells grid) f ∙ length-cells grid)) (λ k e within.
    let here : k < grid.width * grid.height = rw (← long4) within in
    let m1 = same_side e1.side t && eqb k (index_of grid e1.cell) in
    let m2 = same_side e2.side t && eqb k (index_of grid e2.cell) in
    let m3 = same_side e3.side t && eqb k (index_of grid e3.cell) in
    let m4 = same_side e4.side t && eqb k (index_of grid e4.cell) in
    let at = cell_at grid k in
    let by = λ (a b : Cell) (edge : Edge) (inside : is_inside grid edge.cell ≡ true) (h : IsEdgeBetween a b edge). is_between-IsEdgeBetween at t a b edge h ∙ ap (λ s. same_side edge.side t && s) (same_cell-cell_at grid k edge.cell inside) in
    get_written e4.side three (index_of grid e4.cell) barred t k e (rw long3 here)
    ∙ ap (cond m4 barred) (get_written e3.side two (index_of grid e3.cell) barred t k e (rw long2 here)
    ∙ ap (cond m3 barred) (get_written e2.side one (index_of grid e2.cell) barred t k e (rw long1 here)
    ∙ ap (cond m2 barred) (get_written e1.side bars (index_of grid e1.cell) barred t k e (rw long here))))
    ∙ any_of_four m1 m2 m3 m4 barred (get_or bars k e)
    ∙ sym (get_or-map-cells grid f k e here
    ∙ ap (λ s. cond (s || (is_between at t (a2, b2) || (is_between at t (a3, b3) || (is_between at t (a4, b4) || false)))) barred (get_or bars (index_of grid at) d)) (by a1 b1 e1 in1 h1)
    ∙ ap (λ s. cond (m1 || (s || (is_between at t (a3, b3) || (is_between at t (a4, b4) || false)))) barred (get_or bars (index_of grid at) d)) (by a2 b2 e2 in2 h2)
    ∙ ap (λ s. cond (m1 || (m2 || (s || (is_between at t (a4, b4) || false)))) barred (get_or bars (index_of grid at) d)) (by a3 b3 e3 in3 h3)
    ∙ ap (λ s. cond (m1 || (m2 || (m3 || (s || false)))) barred (get_or bars (index_of grid at) d)) (by a4 b4 e4 in4 h4)
    ∙ ap (λ y. cond (m1 || (m2 || (m3 || (m4 || false)))) barred y) (ap (λ n. get_or bars n d) (index_of-cell_at grid k) ∙ get_or_default bars k d e (rw long here))))

-- writing all edges of an orbit has the result that the definition gives
pub edges_written : (grid : Grid) (cell : Cell) (side : Side) (barred : Bool) (edges : List Edge) → IsGrid grid → AreEdgesBetween (images_of grid cell) (images_of grid (beyond side cell)) edges → All (λ edge. is_edge grid edge.cell edge.side ≡ true) edges →
    fold (λ g edge. with_bar g edge.cell edge.side barred) grid edges ≡ with_edges grid cell side barred
edges_written grid cell side barred [] is between inside = elim between [ ]
edges_written grid cell side barred (e1 ∷ []) is between inside = elim between.1 [ ]
edges_written grid cell side barred (e1 ∷ e2 ∷ []) is between inside = elim between.1.1 [ ]
edges_written grid cell side barred (e1 ∷ e2 ∷ e3 ∷ []) is between inside = elim between.1.1.1 [ ]
edges_written grid cell side barred (e1 ∷ e2 ∷ e3 ∷ e4 ∷ []) is between inside =
    let m = moved grid in
    let far = beyond side cell in
    let in1 = (and-true (is_inside grid e1.cell) (is_inside grid (beyond e1.side e1.cell)) (inside 0 e1 (lit< tt))).0 in
    let in2 = (and-true (is_inside grid e2.cell) (is_inside grid (beyond e2.side e2.cell)) (inside 1 e1 (lit< tt))).0 in
    let in3 = (and-true (is_inside grid e3.cell) (is_inside grid (beyond e3.side e3.cell)) (inside 2 e1 (lit< tt))).0 in
    let in4 = (and-true (is_inside grid e4.cell) (is_inside grid (beyond e4.side e4.cell)) (inside 3 e1 (lit< tt))).0 in
    let right = write_four grid grid.right barred false Right cell far (m cell) (m far) (m (m cell)) (m (m far)) (m (m (m cell))) (m (m (m far))) e1 e2 e3 e4 is.right in1 in2 in3 in4 between.0 between.1.0 between.1.1.0 between.1.1.1.0 in
    let below = write_four grid grid.below barred false Below cell far (m cell) (m far) (m (m cell)) (m (m far)) (m (m (m cell))) (m (m (m far))) e1 e2 e3 e4 is.below in1 in2 in3 in4 between.0 between.1.0 between.1.1.0 between.1.1.1.0 in
    ap (λ r. record grid { right = r; below = written e4.side (written e3.side (written e2.side (written e1.side grid.below (index_of grid e1.cell) barred Below) (index_of grid e2.cell) barred Below) (index_of grid e3.cell) barred Below) (index_of grid e4.cell) barred Below }) right
    ∙ ap (λ b. record grid { right = bars_with grid cell side barred Right; below = b }) below
edges_written grid cell side barred (e1 ∷ e2 ∷ e3 ∷ e4 ∷ e5 ∷ es) is between inside = elim between.1.1.1.1 [ ]

pub length-between : (as_a bs : List Cell) (edges : List Edge) → AreEdgesBetween as_a bs edges → length edges ≡ length as_a
length-between [] [] [] h = refl
length-between [] [] (e ∷ es) h = elim h [ ]
length-between [] (b ∷ bs) es h = elim h [ ]
length-between (a ∷ rest) [] es h = elim h [ ]
length-between (a ∷ rest) (b ∷ bs) [] h = elim h [ ]
length-between (a ∷ rest) (b ∷ bs) (e ∷ es) h = ap suc (length-between rest bs es h.1)

same_side_is : (a b : Side) → same_side a b ≡ true → a ≡ b
same_side_is Right Right h = refl
same_side_is Right Below h = cc
same_side_is Below Right h = cc
same_side_is Below Below h = refl

-- the edge between two cells is unique
pub the_edge : (a b : Cell) (edge : Edge) (other : Cell) (towards : Side) → IsEdgeBetween a b edge → is_between other towards (a, b) ≡ true → edge ≡ record { cell = other; side = towards }
the_edge a b edge other towards between h =
    let both = and-true (same_side edge.side towards) (same_cell other edge.cell) (sym (is_between-IsEdgeBetween other towards a b edge between) ∙ h) in
    ap (λ c. record { cell = c; side = edge.side }) (sym (cells_same other edge.cell both.1)) ∙ ap (λ s. record { cell = other; side = s }) (same_side_is edge.side towards both.0)

pub one_of_four : (a b c d : Bool) → (a || (b || (c || (d || false)))) ≡ true → (a ≡ true) ⊎ ((b ≡ true) ⊎ ((c ≡ true) ⊎ (d ≡ true)))
one_of_four true b c d h = inl refl
one_of_four false true c d h = inr (inl refl)
one_of_four false false true d h = inr (inr (inl refl))
one_of_four false false false true h = inr (inr (inr refl))
one_of_four false false false false h = cc

pub edge_orbits_are_small : EdgeOrbitsAreSmall
edge_orbits_are_small grid cell side is edge =
    let m = moved grid in
    let far = beyond side cell in
    let inside = and-true (is_inside grid cell) (is_inside grid far) edge in
    let near1 = moved_inside grid cell is inside.0 in
    let far1 = moved_inside grid far is inside.1 in
    let near2 = moved_inside grid (m cell) is near1 in
    let far2 = moved_inside grid (m far) is far1 in
    let e0 : AreNeighbours cell far = (record { cell = cell; side = side }, inl (refl, refl)) in
    let e1 = moved_neighbours grid cell far is inside.0 inside.1 e0 in
    let e2 = moved_neighbours grid (m cell) (m far) is near1 far1 e1 in
    let e3 = moved_neighbours grid (m (m cell)) (m (m far)) is near2 far2 e2 in (
      e0.0 ∷ e1.0 ∷ e2.0 ∷ e3.0 ∷ [],
      refl,
      λ other towards h. elim (one_of_four (is_between other towards (cell, far)) (is_between other towards (m cell, m far)) (is_between other towards (m (m cell), m (m far))) (is_between other towards (m (m (m cell)), m (m (m far)))) h) [
        | inl h ↦ (0, lit< tt, the_edge cell far e0.0 other towards e0.1 h)
        | inr h ↦ elim h [
          | inl h ↦ (1, lit< tt, the_edge (m cell) (m far) e1.0 other towards e1.1 h)
          | inr h ↦ elim h [
            | inl h ↦ (2, lit< tt, the_edge (m (m cell)) (m (m far)) e2.0 other towards e2.1 h)
            | inr h ↦ (3, lit< tt, the_edge (m (m (m cell))) (m (m (m far))) e3.0 other towards e3.1 h)
          ]
        ]
      ],
    )
