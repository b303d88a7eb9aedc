-- After clues are set at distinct starts, each start has its clue.
use Rattle.std.proofs.Common.{◌≡◌, ℕ, zero, suc, ◌+◌, ◌*◌, ◌<◌, Bool, true, false, ◌&&◌, cond, List, [], ◌∷◌, ◌++◌, length, map, refl, sym, ap, subst, ◌∙◌, inl, inr, arith}
use Rattle.std.specs.Prelude.{filter}
use Rattle.std.specs.List.{flat_map, AllByRecursion, range_with_len}
use Rattle.std.proofs.lemmas.Bool.{cases_Bool, cond-false, and_right, false≢true, false_from_ne_true}
use Rattle.std.proofs.lemmas.List.Concat.{flat_map-append}
use Rattle.xw_grid.specs.declared.cell.Cell.{Cell}
use Rattle.xw_grid.specs.declared.cell.Direction.{Direction}
use Rattle.xw_grid.specs.declared.cell.Direction.TheVariants.{Across, Down}
use Rattle.xw_grid.specs.Grid.{Grid, cells, cell_at, index_of, same_cell}
use Rattle.xw_grid.specs.Light.{begins, light_starting, lights_at, same_direction}
use Rattle.xw_grid.specs.Clue.{ClueMap, clue_at, with_clue}
use Rattle.xw_grid.proofs.KeptLemmas.{clues_are_kept}
use Rattle.xw_grid.proofs.GridLemmas.{cells_same, same_cell_itself, index_of-cell_at}
use Rattle.xw_files.specs.Text.Starts.{start_in, starts_in, starts}
use Rattle.xw_files.specs.Text.Shape.{Lines, with_clues}

-- ---- one clue

same_direction_itself : (d : Direction) → same_direction d d ≡ true
same_direction_itself Across = refl
same_direction_itself Down = refl

pub clue_kept : (clues : ClueMap) (cell other : Cell) (direction towards : Direction) (text : List ℕ) → (same_direction direction towards && same_cell cell other) ≡ false → clue_at (with_clue clues cell direction text) other towards ≡ clue_at clues other towards
clue_kept clues cell other direction towards text apart = clues_are_kept clues cell other direction towards text ∙ cond-false _ _ _ apart

pub clue_set : (clues : ClueMap) (cell : Cell) (direction : Direction) (text : List ℕ) → clue_at (with_clue clues cell direction text) cell direction ≡ text
clue_set clues cell direction text = clues_are_kept clues cell cell direction direction text ∙ rw (same_direction_itself direction, same_cell_itself cell) refl

-- ---- many clues

abbrev pub NotIn : Cell → List Cell → Type 0
NotIn cell others = AllByRecursion (λ other. same_cell cell other ≡ false) others

abbrev pub AreDistinct : List Cell → Type 0
AreDistinct [] = Unit {0}
AreDistinct (cell ∷ others) = NotIn cell others × AreDistinct others

apart_from : (a b : Cell) → same_cell a b ≡ false → same_cell b a ≡ false
apart_from a b apart = false_from_ne_true (same_cell b a) (λ same. false≢true (sym apart ∙ subst (λ (c : Cell). same_cell a c ≡ true) (sym (cells_same b a same)) (same_cell_itself a)))

pub clues_kept : (direction towards : Direction) (starts : List Cell) (texts : Lines) (clues : ClueMap) (other : Cell) → NotIn other starts → clue_at (with_clues direction starts texts clues) other towards ≡ clue_at clues other towards
clues_kept direction towards [] texts clues other apart = refl
clues_kept direction towards (start ∷ starts) [] clues other apart = refl
clues_kept direction towards (start ∷ starts) (text ∷ texts) clues other apart =
    clues_kept direction towards starts texts (with_clue clues start direction text) other apart.1
    ∙ clue_kept clues start other direction towards text (and_right (same_direction direction towards) (same_cell start other) (apart_from other start apart.0))

-- setting clues of one direction keeps those of the other
pub clues_of_other : (direction towards : Direction) (starts : List Cell) (texts : Lines) (clues : ClueMap) (other : Cell) → same_direction direction towards ≡ false → clue_at (with_clues direction starts texts clues) other towards ≡ clue_at clues other towards
clues_of_other direction towards [] texts clues other apart = refl
clues_of_other direction towards (start ∷ starts) [] clues other apart = refl
clues_of_other direction towards (start ∷ starts) (text ∷ texts) clues other apart =
    clues_of_other direction towards starts texts (with_clue clues start direction text) other apart
    ∙ clue_kept clues start other direction towards text (ap (λ (b : Bool). b && same_cell start other) apart)

pub clues_found : (direction : Direction) (starts : List Cell) (texts : Lines) (clues : ClueMap) → AreDistinct starts → length texts ≡ length starts → map (λ start. clue_at (with_clues direction starts texts clues) start direction) starts ≡ texts
clues_found direction [] [] clues distinct same = refl
clues_found direction [] (text ∷ texts) clues distinct same = absurd (omega arith)
clues_found direction (start ∷ starts) [] clues distinct same = absurd (omega arith)
clues_found direction (start ∷ starts) (text ∷ texts) clues distinct same =
    let first : clue_at (with_clues direction starts texts (with_clue clues start direction text)) start direction ≡ text =
    clues_kept direction direction starts texts (with_clue clues start direction text) start distinct.0 ∙ clue_set clues start direction text in
    rw first (ap (λ (t : Lines). text ∷ t) (clues_found direction starts texts (with_clue clues start direction text) distinct.1 (omega arith)))

-- ---- starts are distinct

across_of_two : (x y : Bool) (grid : Grid) (cell : Cell) → starts_in Across (cond x (light_starting grid Across cell ∷ []) [] ++ cond y (light_starting grid Down cell ∷ []) []) ≡ cond x (cell ∷ []) []
across_of_two true true grid cell = refl
across_of_two true false grid cell = refl
across_of_two false true grid cell = refl
across_of_two false false grid cell = refl

down_of_two : (x y : Bool) (grid : Grid) (cell : Cell) → starts_in Down (cond x (light_starting grid Across cell ∷ []) [] ++ cond y (light_starting grid Down cell ∷ []) []) ≡ cond y (cell ∷ []) []
down_of_two true true grid cell = refl
down_of_two true false grid cell = refl
down_of_two false true grid cell = refl
down_of_two false false grid cell = refl

starts_at : (grid : Grid) (direction : Direction) (cell : Cell) → starts_in direction (lights_at grid cell) ≡ cond (begins grid direction cell) (cell ∷ []) []
starts_at grid Across cell = across_of_two (begins grid Across cell) (begins grid Down cell) grid cell
starts_at grid Down cell = down_of_two (begins grid Across cell) (begins grid Down cell) grid cell

one_before : (b : Bool) (c : Cell) (cs : List Cell) → cond b (c ∷ []) [] ++ cs ≡ cond b (c ∷ cs) cs
one_before true c cs = refl
one_before false c cs = refl

starts_from : (grid : Grid) (direction : Direction) (cs : List Cell) → starts_in direction (flat_map (lights_at grid) cs) ≡ filter (begins grid direction) cs
starts_from grid direction [] = refl
starts_from grid direction (c ∷ cs) =
    flat_map-append (start_in direction) (lights_at grid c) (flat_map (lights_at grid) cs)
    ∙ ap (λ (front : List Cell). front ++ starts_in direction (flat_map (lights_at grid) cs)) (starts_at grid direction c)
    ∙ ap (λ (back : List Cell). cond (begins grid direction c) (c ∷ []) [] ++ back) (starts_from grid direction cs)
    ∙ one_before (begins grid direction c) c (filter (begins grid direction) cs)

pub starts_are : (grid : Grid) (direction : Direction) → starts grid direction ≡ filter (begins grid direction) (cells grid)
starts_are grid direction = starts_from grid direction (cells grid)

NotIn-filter : (p : Cell → Bool) (cell : Cell) (others : List Cell) → NotIn cell others → NotIn cell (filter p others)
NotIn-filter p cell [] apart = tt
NotIn-filter p cell (other ∷ others) apart =
    elim (cases_Bool (p other)) [
      | inl passes ↦ rw passes (apart.0, NotIn-filter p cell others apart.1)
      | inr fails ↦ rw fails (NotIn-filter p cell others apart.1)
    ]

AreDistinct-filter : (p : Cell → Bool) (cs : List Cell) → AreDistinct cs → AreDistinct (filter p cs)
AreDistinct-filter p [] distinct = tt
AreDistinct-filter p (c ∷ cs) distinct =
    elim (cases_Bool (p c)) [
      | inl passes ↦ rw passes (NotIn-filter p c cs distinct.0, AreDistinct-filter p cs distinct.1)
      | inr fails ↦ rw fails (AreDistinct-filter p cs distinct.1)
    ]

cells_apart : (grid : Grid) (j k : ℕ) → j < k → same_cell (cell_at grid j) (cell_at grid k) ≡ false
cells_apart grid j k lt = false_from_ne_true _ (λ same.
    let e : j ≡ k = sym (index_of-cell_at grid j) ∙ ap (index_of grid) (cells_same (cell_at grid j) (cell_at grid k) same) ∙ index_of-cell_at grid k in
    absurd (omega arith))

NotIn-range : (grid : Grid) (j a n : ℕ) → j < a → NotIn (cell_at grid j) (map (cell_at grid) (range_with_len a n))
NotIn-range grid j a zero lt = tt
NotIn-range grid j a (suc n) lt = (cells_apart grid j a lt, NotIn-range grid j (a + 1) n (omega arith))

AreDistinct-range : (grid : Grid) (a n : ℕ) → AreDistinct (map (cell_at grid) (range_with_len a n))
AreDistinct-range grid a zero = tt
AreDistinct-range grid a (suc n) = (NotIn-range grid a (a + 1) n (omega arith), AreDistinct-range grid (a + 1) n)

pub starts_distinct : (grid : Grid) (direction : Direction) → AreDistinct (starts grid direction)
starts_distinct grid direction = subst AreDistinct (sym (starts_are grid direction)) (AreDistinct-filter (begins grid direction) (cells grid) (AreDistinct-range grid 0 (grid.width * grid.height)))
