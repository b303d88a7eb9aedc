-- An upper bound for the number of lights.
use Rattle.std.proofs.Common.{◌≡◌, ℕ, zero, suc, ◌+◌, ◌-◌, ◌*◌, ◌%◌, ◌<◌, ◌≤◌, true, false, cond, not, [], ◌∷◌, map, length, refl, ap, sym, ◌∙◌, arith}
use Rattle.std.specs.Prelude.{flat_map}
use Rattle.std.specs.List.{range_with_len}
use Rattle.std.proofs.Math.Nat.{suc-mul, mul_comm}
use Rattle.std.proofs.lemmas.Bool.{both_ways, false_from_ne_true}
use Rattle.std.proofs.lemmas.List.{length-append}
use Rattle.std.proofs.lemmas.Nat.{div-mul-add, mod-mul-add}
use Rattle.xw_grid.specs.declared.cell.Cell.{Cell}
use Rattle.xw_grid.specs.declared.cell.Direction.{Direction}
use Rattle.xw_grid.specs.declared.cell.Direction.TheVariants.{Across, Down}
use Rattle.xw_grid.specs.Grid.{Grid, IsGrid, is_inside, cell_at}
use Rattle.xw_grid.specs.Light.{is_joined, next, previous, begins, light_from, light_starting, lights_at}
use Rattle.xw_grid.specs.LightLaws.{LightsAreFew}
use Rattle.xw_grid.proofs.GridLemmas.{and-true, IsInside-is_inside}
use Rattle.xw_grid.proofs.LightLemmas.{joined_inside, not_true, previous-next}

-- ---- sums

abbrev total : (ℕ → ℕ) → ℕ → ℕ → ℕ
total f a zero = 0
total f a (suc n) = f a + total f (a + 1) n

total_same : (f g : ℕ → ℕ) (n a : ℕ) → ((k : ℕ) → k < a + n → f k ≡ g k) → total f a n ≡ total g a n
total_same f g zero a same = refl
total_same f g (suc n) a same = rw (same a (omega arith), total_same f g n (a + 1) (λ k lt. same k (omega arith))) refl

total_zero : (f : ℕ → ℕ) → ((k : ℕ) → f k ≡ 0) → (n a : ℕ) → total f a n ≡ 0
total_zero f none zero a = refl
total_zero f none (suc n) a = omega (arith, none a, total_zero f none n (a + 1))

total_both : (f g : ℕ → ℕ) → ((k : ℕ) → f k + g k ≤ 1) → (n a : ℕ) → total f a n + total g a n ≤ n
total_both f g one zero a = omega arith
total_both f g one (suc n) a = omega (arith, one a, total_both f g one n (a + 1))

total_le : (f : ℕ → ℕ) (most : ℕ) → ((k : ℕ) → f k ≤ most) → (n a : ℕ) → total f a n ≤ n * most
total_le f most each zero a = omega arith
total_le f most each (suc n) a = let e : suc n * most ≡ n * most + most = suc-mul n most in rw e (omega (arith, each a, total_le f most each n (a + 1)))

total_shift : (f : ℕ → ℕ) (b n a : ℕ) → total f (b + a) n ≡ total (λ k. f (b + k)) a n
total_shift f b zero a = refl
total_shift f b (suc n) a = let e : b + a + 1 ≡ b + (a + 1) = omega arith in ap (λ k. f (b + a) + total f k n) e ∙ ap (λ t. f (b + a) + t) (total_shift f b n (a + 1))

total_parts : (f : ℕ → ℕ) (n m a : ℕ) → total f a (n + m) ≡ total f a n + total f (a + n) m
total_parts f zero m a =
    let none : 0 + m ≡ m = omega arith in
    let start : a + 0 ≡ a = omega arith in
    rw (none, start) (omega arith)
total_parts f (suc n) m a =
    let e : suc n + m ≡ suc (n + m) = omega arith in
    let h : a + 1 + n ≡ a + suc n = omega arith in
    ap (total f a) e ∙ ap (λ t. f a + t) (total_parts f n m (a + 1)) ∙ ap (λ k. f a + (total f (a + 1) n + total f k m)) h ∙ omega arith

-- the sum over a grid is the sum over its rows
total_rows : (f : ℕ → ℕ) (width h s : ℕ) → total f (s * width) (h * width) ≡ total (λ r. total (λ c. f (r * width + c)) 0 width) s h
total_rows f width zero s = ap (total f (s * width)) (let e : 0 * width ≡ 0 = omega arith in e)
total_rows f width (suc h) s =
    let size : suc h * width ≡ width + h * width = suc-mul h width ∙ omega arith in
    let past : s * width + width ≡ (s + 1) * width = (let e : s + 1 ≡ suc s = omega arith in sym (ap (λ k. k * width) e ∙ suc-mul s width)) in
    let first : s * width ≡ s * width + 0 = omega arith in
    ap (total f (s * width)) size ∙ total_parts f width (h * width) (s * width)
    ∙ ap (λ t. t + total f (s * width + width) (h * width)) (ap (λ k. total f k width) first ∙ total_shift f (s * width) width 0)
    ∙ ap (λ k. total (λ c. f (s * width + c)) 0 width + total f k (h * width)) past
    ∙ ap (λ t. total (λ c. f (s * width + c)) 0 width + t) (total_rows f width h (s + 1))

-- if any two consecutive numbers add up to at most `most`, and the last is 0, then the sum of at most
-- 2 * m + 1 of them is at most m * most
halves : (f : ℕ → ℕ) (most : ℕ) → ((k : ℕ) → f k + f (k + 1) ≤ most) → (m n a : ℕ) → n ≤ 2 * m + 1 → (0 < n → f (a + n - 1) ≡ 0) → total f a n ≤ m * most
halves f most pair m zero a le last = omega arith
halves f most pair m (suc zero) a le last =
    let e : a + 1 - 1 ≡ a = omega arith in
    let none : f a ≡ 0 = ap f (sym e) ∙ last (omega arith) in
    omega (arith, none)
halves f most pair zero (suc (suc n)) a le last = absurd (omega arith)
halves f most pair (suc m) (suc (suc n)) a le last =
    let e : suc m * most ≡ m * most + most = suc-mul m most in
    let rest : total f (a + 1 + 1) n ≤ m * most = halves f most pair m n (a + 1 + 1) (omega arith) (λ some. ap f (let h : a + 1 + 1 + n - 1 ≡ a + suc (suc n) - 1 = omega arith in h) ∙ last (omega arith)) in
    rw e (omega (arith, pair a, rest))

-- ---- cells that begin a light

abbrev one : Grid → Direction → Cell → ℕ
one grid direction cell = cond (begins grid direction cell) 1 0

abbrev at : ℕ → ℕ → Cell
at r c = record { row = r + 1; col = c + 1 }

length-light_from : (grid : Grid) (cell : Cell) (direction : Direction) → length (light_from grid cell direction) ≡ one grid direction cell
length-light_from grid cell direction = elim (begins grid direction cell) as (λ b. length (cond b (light_starting grid direction cell ∷ []) []) ≡ cond b 1 0) [ true ↦ refl | false ↦ refl ]

length-lights_at : (grid : Grid) (cell : Cell) → length (lights_at grid cell) ≡ one grid Across cell + one grid Down cell
length-lights_at grid cell = length-append (light_from grid cell Across) (light_from grid cell Down) ∙ rw (length-light_from grid cell Across, length-light_from grid cell Down) refl

length-lights : (grid : Grid) (n a : ℕ) → length (flat_map (lights_at grid) (map (cell_at grid) (range_with_len a n))) ≡ total (λ k. one grid Across (cell_at grid k)) a n + total (λ k. one grid Down (cell_at grid k)) a n
length-lights grid zero a = refl
length-lights grid (suc n) a =
    length-append (lights_at grid (cell_at grid a)) (flat_map (lights_at grid) (map (cell_at grid) (range_with_len (a + 1) n)))
    ∙ rw (length-lights_at grid (cell_at grid a), length-lights grid n (a + 1)) (omega arith)

-- of two consecutive cells in a direction, at most one begins a light in that direction
pair_small : (grid : Grid) (direction : Direction) (cell : Cell) → one grid direction cell + one grid direction (next direction cell) ≤ 1
pair_small grid direction cell =
    elim (begins grid direction cell) as (λ b. begins grid direction cell ≡ b → cond b 1 0 + one grid direction (next direction cell) ≤ 1) [
      | true ↦ λ here.
          let joined : is_joined grid direction cell ≡ true = (and-true (is_joined grid direction cell) (not (is_joined grid direction (previous direction cell))) here).0 in
          let none : begins grid direction (next direction cell) ≡ false = false_from_ne_true (begins grid direction (next direction cell)) (λ there.
          let parts = and-true (is_joined grid direction (next direction cell)) (not (is_joined grid direction (previous direction (next direction cell)))) there in
          both_ways (is_joined grid direction cell) (ap (is_joined grid direction) (sym (previous-next direction cell (next direction cell) refl)) ∙ not_true (is_joined grid direction (previous direction (next direction cell))) parts.1) joined) in
          rw none (omega arith)
      | false ↦ λ _. elim (begins grid direction (next direction cell)) as (λ b. 0 + cond b 1 0 ≤ 1) [ true ↦ omega arith | false ↦ omega arith ]
    ] refl

none_past : (grid : Grid) (direction : Direction) (cell : Cell) → is_inside grid (next direction cell) ≡ false → one grid direction cell ≡ 0
none_past grid direction cell outside =
    let none : begins grid direction cell ≡ false = false_from_ne_true (begins grid direction cell) (λ h.
    let joined = (and-true (is_joined grid direction cell) (not (is_joined grid direction (previous direction cell))) h).0 in
    both_ways (is_inside grid (next direction cell)) outside (joined_inside grid direction cell joined).1) in
    rw none refl

outside_right : (grid : Grid) (r c : ℕ) → grid.width ≤ c + 1 → is_inside grid (next Across (at r c)) ≡ false
outside_right grid r c past = false_from_ne_true (is_inside grid (next Across (at r c))) (λ h. let inside = IsInside-is_inside grid (next Across (at r c)) h in absurd (omega (arith, inside.col_high)))

outside_below : (grid : Grid) (r c : ℕ) → grid.height ≤ r + 1 → is_inside grid (next Down (at r c)) ≡ false
outside_below grid r c past = false_from_ne_true (is_inside grid (next Down (at r c))) (λ h. let inside = IsInside-is_inside grid (next Down (at r c)) h in absurd (omega (arith, inside.row_high)))

by_rows : (grid : Grid) (direction : Direction) → total (λ k. one grid direction (cell_at grid k)) 0 (grid.width * grid.height) ≡ total (λ r. total (λ c. one grid direction (at r c)) 0 grid.width) 0 grid.height
by_rows grid direction =
    let f = λ (k : ℕ). one grid direction (cell_at grid k) in
    let zeros : 0 ≡ 0 * grid.width = omega arith in
    ap (total f 0) (mul_comm grid.width grid.height)
    ∙ ap (λ s. total f s (grid.height * grid.width)) zeros
    ∙ total_rows f grid.width grid.height 0
    ∙ total_same (λ r. total (λ c. f (r * grid.width + c)) 0 grid.width) (λ r. total (λ c. one grid direction (at r c)) 0 grid.width) grid.height 0 (λ r _.
    total_same (λ c. f (r * grid.width + c)) (λ c. one grid direction (at r c)) grid.width 0 (λ c lt.
    let here : c < grid.width = omega arith in
    ap (λ row. one grid direction (record { row = row + 1; col = (r * grid.width + c) % grid.width + 1 })) (div-mul-add r grid.width c here)
    ∙ ap (λ col. one grid direction (record { row = r + 1; col = col + 1 })) (mod-mul-add r grid.width c here)))

few_across : (grid : Grid) → IsGrid grid → total (λ r. total (λ c. one grid Across (at r c)) 0 grid.width) 0 grid.height ≤ 32385
few_across grid is =
    let each : (r : ℕ) → total (λ c. one grid Across (at r c)) 0 grid.width ≤ 127 =
    λ r. halves (λ c. one grid Across (at r c)) 1 (λ c. pair_small grid Across (at r c)) 127 grid.width 0 (omega (arith, is.wide)) (λ some. none_past grid Across (at r (0 + grid.width - 1)) (outside_right grid r (0 + grid.width - 1) (omega arith))) in
    let all = total_le (λ r. total (λ c. one grid Across (at r c)) 0 grid.width) 127 each grid.height 0 in
    omega (arith, all, is.high)

few_down : (grid : Grid) → IsGrid grid → total (λ r. total (λ c. one grid Down (at r c)) 0 grid.width) 0 grid.height ≤ 32385
few_down grid is =
    let all : total (λ r. total (λ c. one grid Down (at r c)) 0 grid.width) 0 grid.height ≤ 127 * grid.width =
    halves (λ r. total (λ c. one grid Down (at r c)) 0 grid.width) grid.width
    (λ r. total_both (λ c. one grid Down (at r c)) (λ c. one grid Down (at (r + 1) c)) (λ c. pair_small grid Down (at r c)) grid.width 0)
    127 grid.height 0 (omega (arith, is.high)) (λ some. total_zero (λ c. one grid Down (at (0 + grid.height - 1) c)) (λ c. none_past grid Down (at (0 + grid.height - 1) c) (outside_below grid (0 + grid.height - 1) c (omega arith))) grid.width 0) in
    omega (arith, all, is.wide)

pub lights_are_few : LightsAreFew
lights_are_few grid is =
    let across = by_rows grid Across in
    let down = by_rows grid Down in
    omega (arith, length-lights grid (grid.width * grid.height) 0, across, down, few_across grid is, few_down grid is)
