-- The circles that a section marks, and the marks that are written for circles.
use Rattle.std.proofs.Common.{◌≡◌, ℕ, zero, suc, ◌+◌, ◌*◌, ◌<◌, Bool, true, false, cond, ◌&&◌, ◌||◌, List, [], ◌∷◌, map, get_or, nat_eq, refl, sym, ap, ◌∙◌, arith}
use Rattle.std.specs.Prelude.{filter}
use Rattle.std.specs.List.{list_any, range_with_len}
use Rattle.std.proofs.lemmas.Bool.{false_from_ne_true}
use Rattle.xw_grid.specs.declared.cell.Cell.{Cell}
use Rattle.xw_grid.specs.Grid.{Grid, cells, cell_at, index_of, is_open, same_cell}
use Rattle.xw_grid.specs.Clue.{is_circled, with_circle}
use Rattle.xw_grid.proofs.GridLemmas.{index_of-cell_at, cells_same, same_cell_itself, get_or-map-cells}
use Rattle.xw_grid.proofs.KeptLemmas.{circles_are_kept}
use Rattle.xw_files.specs.Part.{is_circled_open}
use Rattle.xw_files.specs.Puz.Sections.{is_marked, marked_cells, with_mark, with_marks}
use Rattle.xw_files.specs.Puz.Writing.{mark_of, marks_of, gext_bytes, circles_section}

-- ---- filtering cells by two equal tests

filter-range : (p q : Cell → Bool) (f : ℕ → Cell) (from count : ℕ) → ((k : ℕ) → k < from + count → p (f k) ≡ q (f k)) → filter p (map f (range_with_len from count)) ≡ filter q (map f (range_with_len from count))
filter-range p q f from zero same = refl
filter-range p q f from (suc count) same =
    let rest = filter-range p q f (from + 1) count (λ k h. same k (omega arith)) in
    rw (same from (omega arith), rest) refl

pub filter-cells : (p q : Cell → Bool) (grid : Grid) → ((k : ℕ) → k < grid.width * grid.height → p (cell_at grid k) ≡ q (cell_at grid k)) → filter p (cells grid) ≡ filter q (cells grid)
filter-cells p q grid same = filter-range p q (cell_at grid) 0 (grid.width * grid.height) (λ k h. same k (omega arith))

pub none-filtered : {A : Type 0} (p : A → Bool) (xs : List A) → list_any p xs ≡ false → filter p xs ≡ []
none-filtered p [] none = refl
none-filtered p (x ∷ xs) none =
    elim (p x) as (λ b. p x ≡ b → (b || list_any p xs) ≡ false → cond b (x ∷ filter p xs) (filter p xs) ≡ []) [
      | true ↦ λ is bad. cc
      | false ↦ λ is rest. none-filtered p xs rest
    ] refl none

-- ---- reading marks

indices-same : (grid : Grid) (i k : ℕ) → same_cell (cell_at grid i) (cell_at grid k) ≡ true → i ≡ k
indices-same grid i k e = sym (index_of-cell_at grid i) ∙ ap (index_of grid) (cells_same (cell_at grid i) (cell_at grid k) e) ∙ index_of-cell_at grid k

indices-apart : (grid : Grid) (i k : ℕ) → (i ≡ k → ⊥) → same_cell (cell_at grid i) (cell_at grid k) ≡ false
indices-apart grid i k other = false_from_ne_true (same_cell (cell_at grid i) (cell_at grid k)) (λ e. other (indices-same grid i k e))

-- the mark of another cell changes nothing
mark-elsewhere : (circles : List Cell) (cell other : Cell) (b : Bool) → same_cell cell other ≡ false → is_circled (cond b (with_circle circles cell true) circles) other ≡ is_circled circles other
mark-elsewhere circles cell other true away = circles_are_kept circles cell other true ∙ rw away refl
mark-elsewhere circles cell other false away = refl

mark-here : (circles : List Cell) (cell : Cell) (b : Bool) → same_cell cell cell ≡ true → is_circled (cond b (with_circle circles cell true) circles) cell ≡ (b || is_circled circles cell)
mark-here circles cell true here = circles_are_kept circles cell cell true ∙ rw here refl
mark-here circles cell false here = refl

marks-before : (grid : Grid) (circles : List Cell) (index : ℕ) (bytes : List ℕ) (k : ℕ) → k < index → is_circled (with_marks grid circles index bytes) (cell_at grid k) ≡ is_circled circles (cell_at grid k)
marks-before grid circles index [] k h = refl
marks-before grid circles index (b ∷ bs) k h =
    marks-before grid (with_mark grid circles (cell_at grid index) b) (index + 1) bs k (omega arith)
    ∙ mark-elsewhere circles (cell_at grid index) (cell_at grid k) (is_marked b && is_open grid (cell_at grid index)) (indices-apart grid index k (λ e. omega (arith, e)))

marks-at : (grid : Grid) (circles : List Cell) (index : ℕ) (bytes : List ℕ) (j k : ℕ) → k ≡ index + j
    → is_circled (with_marks grid circles index bytes) (cell_at grid k) ≡ ((is_marked (get_or bytes j 0) && is_open grid (cell_at grid k)) || is_circled circles (cell_at grid k))
marks-at grid circles index [] j k e = refl
marks-at grid circles index (b ∷ bs) zero k e =
    let at : index ≡ k = omega (arith, e) in
    marks-before grid (with_mark grid circles (cell_at grid index) b) (index + 1) bs k (omega (arith, e))
    ∙ rw at (mark-here circles (cell_at grid k) (is_marked b && is_open grid (cell_at grid k)) (same_cell_itself (cell_at grid k)))
marks-at grid circles index (b ∷ bs) (suc j) k e =
    let later = marks-at grid (with_mark grid circles (cell_at grid index) b) (index + 1) bs j k (omega (arith, e)) in
    let away = mark-elsewhere circles (cell_at grid index) (cell_at grid k) (is_marked b && is_open grid (cell_at grid index)) (indices-apart grid index k (λ same. omega (arith, e, same))) in
    later ∙ ap (λ c. (is_marked (get_or bs j 0) && is_open grid (cell_at grid k)) || c) away

open-and-marked : (o m : Bool) → (o && ((m && o) || false)) ≡ (o && m)
open-and-marked true true = refl
open-and-marked true false = refl
open-and-marked false m = refl

-- the circles that are read are those that the bytes mark
pub marked-read : (grid : Grid) (marks : List ℕ) → filter (is_circled_open grid (with_marks grid [] 0 marks)) (cells grid) ≡ marked_cells grid marks
marked-read grid marks =
    filter-cells (is_circled_open grid (with_marks grid [] 0 marks)) (λ cell. is_open grid cell && is_marked (get_or marks (index_of grid cell) 0)) grid (λ k h.
    ap (λ c. is_open grid (cell_at grid k) && c) (marks-at grid [] 0 marks k k (omega arith))
    ∙ open-and-marked (is_open grid (cell_at grid k)) (is_marked (get_or marks k 0))
    ∙ ap (λ n. is_open grid (cell_at grid k) && is_marked (get_or marks n 0)) (sym (index_of-cell_at grid k)))

-- ---- writing marks

marked-mark : (b : Bool) → is_marked (cond b 128 0) ≡ b
marked-mark true = refl
marked-mark false = refl

open-twice : (o c : Bool) → (o && (o && c)) ≡ (o && c)
open-twice true c = refl
open-twice false c = refl

-- the marks written for circles mark exactly these
pub marked-written : (grid : Grid) (circles : List Cell) → filter (is_circled_open grid circles) (cells grid) ≡ marked_cells grid (marks_of grid circles)
marked-written grid circles =
    filter-cells (is_circled_open grid circles) (λ cell. is_open grid cell && is_marked (get_or (marks_of grid circles) (index_of grid cell) 0)) grid (λ k h.
    let cell = cell_at grid k in
    let at : get_or (marks_of grid circles) (index_of grid cell) 0 ≡ mark_of grid circles cell = ap (λ n. get_or (marks_of grid circles) n 0) (index_of-cell_at grid k) ∙ get_or-map-cells grid (mark_of grid circles) k 0 h in
    sym (ap (λ n. is_open grid cell && is_marked n) at
    ∙ ap (λ b. is_open grid cell && b) (marked-mark (is_circled_open grid circles cell))
    ∙ open-twice (is_open grid cell) (is_circled circles cell)))

mark-found : (b : Bool) → nat_eq (cond b 128 0) 128 ≡ b
mark-found true = refl
mark-found false = refl

pub any-mark : (grid : Grid) (circles : List Cell) (among : List Cell) → list_any (λ mark. nat_eq mark 128) (map (mark_of grid circles) among) ≡ list_any (is_circled_open grid circles) among
any-mark grid circles [] = refl
any-mark grid circles (cell ∷ rest) = rw (mark-found (is_circled_open grid circles cell), any-mark grid circles rest) refl

-- ---- the section

pub section-written : (grid : Grid) (circles : List Cell) (marks bytes : List ℕ) → marks ≡ marks_of grid circles → list_any (λ mark. nat_eq mark 128) marks ≡ true → bytes ≡ gext_bytes marks → bytes ≡ circles_section grid circles
section-written grid circles marks bytes is some section =
    let found : list_any (is_circled_open grid circles) (cells grid) ≡ true = sym (any-mark grid circles (cells grid)) ∙ ap (list_any (λ mark. nat_eq mark 128)) (sym is) ∙ some in
    section ∙ ap gext_bytes is ∙ sym (ap (λ b. cond b (gext_bytes (marks_of grid circles)) []) found)

pub section-left : (grid : Grid) (circles : List Cell) (marks bytes : List ℕ) → marks ≡ marks_of grid circles → list_any (λ mark. nat_eq mark 128) marks ≡ false → bytes ≡ [] → bytes ≡ circles_section grid circles
section-left grid circles marks bytes is none section =
    let missed : list_any (is_circled_open grid circles) (cells grid) ≡ false = sym (any-mark grid circles (cells grid)) ∙ ap (list_any (λ mark. nat_eq mark 128)) (sym is) ∙ none in
    section ∙ sym (ap (λ b. cond b (gext_bytes (marks_of grid circles)) []) missed)
