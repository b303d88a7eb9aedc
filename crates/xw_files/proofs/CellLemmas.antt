-- Loops over the cells of a grid and over lights.
use Rattle.std.proofs.Common.{◌≡◌, ℕ, zero, suc, ◌+◌, ◌*◌, ◌<◌, ◌≤◌, Bool, true, false, List, [], ◌∷◌, ◌++◌, map, take, drop, length, refl, sym, ap, ◌∙◌, arith}
use Rattle.std.specs.List.{list_any}
use Rattle.std.specs.Prelude.{find, Some, None, slice_get}
use Rattle.std.proofs.lemmas.List.{at_drop_more, at_drop_all, map-append, length-map}
use Rattle.std.proofs.lemmas.List.FromFn.{get_or-map-range_with_len}
use Rattle.xw_grid.specs.declared.cell.Cell.{Cell}
use Rattle.xw_grid.specs.Grid.{Grid, cells, cell_at}
use Rattle.xw_grid.proofs.GridLemmas.{length-cells, take-cells, all-cells}

pub cells-step : {Y : Type 0} (F : List Cell → Y) (grid : Grid) (i : ℕ) → i < grid.width * grid.height → F (drop i (cells grid)) ≡ F (cell_at grid i ∷ drop (i + 1) (cells grid))
cells-step F grid i h =
    let d = cell_at grid 0 in
    at_drop_more F (cells grid) i d (omega (arith, length-cells grid))
    ∙ ap (λ cell. F (cell ∷ drop (i + 1) (cells grid))) (get_or-map-range_with_len (cell_at grid) 0 (grid.width * grid.height) i i d h (omega arith))

pub cells-end : {Y : Type 0} (F : List Cell → Y) (grid : Grid) (i : ℕ) → grid.width * grid.height ≤ i → F (drop i (cells grid)) ≡ F []
cells-end F grid i h = at_drop_all F (cells grid) i (omega (arith, length-cells grid))

-- the cells from an index on
pub cells_drop : (grid : Grid) (size k : ℕ) (cell : Cell) → size ≡ grid.width * grid.height → k < size → cell ≡ cell_at grid k → drop k (cells grid) ≡ cell ∷ drop (k + 1) (cells grid)
cells_drop grid size k cell is lt at = cells-step (λ cs. cs) grid k (omega (arith, is)) ∙ ap (λ c. c ∷ drop (k + 1) (cells grid)) (sym at)

pub cells_past : (grid : Grid) (size k : ℕ) → size ≡ grid.width * grid.height → size ≤ k → drop k (cells grid) ≡ []
cells_past grid size k is le = cells-end (λ cs. cs) grid k (omega (arith, is))

pub any-true : (p : Cell → Bool) (grid : Grid) (i : ℕ) → i < grid.width * grid.height → p (cell_at grid i) ≡ true → list_any p (drop i (cells grid)) ≡ true
any-true p grid i h e = cells-step (list_any p) grid i h ∙ rw e refl

pub any-more : (p : Cell → Bool) (grid : Grid) (i : ℕ) → i < grid.width * grid.height → p (cell_at grid i) ≡ false → list_any p (drop i (cells grid)) ≡ list_any p (drop (i + 1) (cells grid))
any-more p grid i h e = cells-step (list_any p) grid i h ∙ rw e refl

pub any-end : (p : Cell → Bool) (grid : Grid) (i : ℕ) → grid.width * grid.height ≤ i → list_any p (drop i (cells grid)) ≡ false
any-end p grid i h = cells-end (list_any p) grid i h

pub find-some : (p : Cell → Bool) (grid : Grid) (i : ℕ) → i < grid.width * grid.height → p (cell_at grid i) ≡ true → find p (drop i (cells grid)) ≡ Some (cell_at grid i)
find-some p grid i h e = cells-step (find p) grid i h ∙ rw e refl

pub find-more : (p : Cell → Bool) (grid : Grid) (i : ℕ) → i < grid.width * grid.height → p (cell_at grid i) ≡ false → find p (drop i (cells grid)) ≡ find p (drop (i + 1) (cells grid))
find-more p grid i h e = cells-step (find p) grid i h ∙ rw e refl

pub find-end : (p : Cell → Bool) (grid : Grid) (i : ℕ) → grid.width * grid.height ≤ i → find p (drop i (cells grid)) ≡ None
find-end p grid i h = cells-end (find p) grid i h

pub map-more : {B : Type 0} (f : Cell → B) (grid : Grid) (i : ℕ) → i < grid.width * grid.height → map f (take (i + 1) (cells grid)) ≡ map f (take i (cells grid)) ++ f (cell_at grid i) ∷ []
map-more f grid i h = ap (map f) (take-cells grid i h) ∙ map-append f (take i (cells grid)) (cell_at grid i ∷ [])

pub map-end : {B : Type 0} (f : Cell → B) (grid : Grid) (i : ℕ) → grid.width * grid.height ≤ i → map f (take i (cells grid)) ≡ map f (cells grid)
map-end f grid i h = ap (map f) (all-cells grid i h)

pub length-map-cells : {B : Type 0} (f : Cell → B) (grid : Grid) → length (map f (cells grid)) ≡ grid.width * grid.height
length-map-cells f grid = length-map (cells grid) f ∙ length-cells grid

take-got : {A : Type 0} (xs : List A) (i : ℕ) (x : A) → slice_get xs i ≡ Some x → take (suc i) xs ≡ take i xs ++ x ∷ []
take-got [] i x h = cc
take-got (y ∷ ys) zero x h = let e : y ≡ x = cc in rw e refl
take-got (y ∷ ys) (suc i) x h = ap (λ zs. y ∷ zs) (take-got ys i x h)

take-none : {A : Type 0} (xs : List A) (i : ℕ) → slice_get xs i ≡ None → take i xs ≡ xs
take-none [] zero h = refl
take-none [] (suc i) h = refl
take-none (y ∷ ys) zero h = cc
take-none (y ∷ ys) (suc i) h = ap (λ zs. y ∷ zs) (take-none ys i h)

pub map-got : {A B : Type 0} (f : A → B) (xs : List A) (i : ℕ) (x : A) → slice_get xs i ≡ Some x → map f (take (i + 1) xs) ≡ map f (take i xs) ++ f x ∷ []
map-got f xs i x h =
    let plus : i + 1 ≡ suc i = omega arith in
    ap (λ n. map f (take n xs)) plus ∙ ap (map f) (take-got xs i x h) ∙ map-append f (take i xs) (x ∷ [])

pub map-none : {A B : Type 0} (f : A → B) (xs : List A) (i : ℕ) → slice_get xs i ≡ None → map f (take i xs) ≡ map f xs
map-none f xs i h = ap (map f) (take-none xs i h)
