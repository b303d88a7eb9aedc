-- The index of the light whose clue cannot be written, found cell by cell.
use Rattle.std.proofs.Common.{◌≡◌, ℕ, ◌+◌, ◌*◌, ◌<◌, ◌≤◌, Bool, true, false, not, ◌&&◌, cond, List, [], ◌∷◌, ◌++◌, length, drop, Option, Some, None, refl, sym, ap, ◌∙◌, inl, inr, arith}
use Rattle.std.specs.Prelude.{position, option_map}
use Rattle.std.specs.List.{flat_map, position_or_len}
use Rattle.std.proofs.lemmas.Bool.{cases_lt, lt-ltb, le-ltb, and_parts}
use Rattle.std.proofs.Math.Bool.{and-false}
use Rattle.xw_grid.specs.declared.cell.Cell.{Cell}
use Rattle.xw_grid.specs.declared.cell.Direction.{Direction}
use Rattle.xw_grid.specs.declared.cell.Direction.TheVariants.{Across, Down}
use Rattle.xw_grid.specs.declared.lights.Light.{Light}
use Rattle.xw_grid.specs.Grid.{Grid, cells, cell_at}
use Rattle.xw_grid.specs.Light.{begins, light_starting, lights_at, lights_of}
use Rattle.xw_grid.specs.Clue.{ClueMap, clue_at}
use Rattle.xw_files.specs.Text.Written.{is_clue, is_bad_clue, bad_clue, index_at}
use Rattle.xw_files.proofs.CellLemmas.{cells_drop, cells_past}

-- the index moved up by n
abbrev pub shifted : ℕ → Option ℕ → Option ℕ
shifted n index = option_map (λ k. n + k) index

shifted_twice : (a b : ℕ) (index : Option ℕ) → shifted a (shifted b index) ≡ shifted (a + b) index
shifted_twice a b None = refl
shifted_twice a b (Some k) = ap (λ (n : ℕ). Some n) (let e : a + (b + k) ≡ a + b + k = omega arith in e)

shifted_by_none : (index : Option ℕ) → shifted 0 index ≡ index
shifted_by_none None = refl
shifted_by_none (Some k) = ap (λ (n : ℕ). Some n) (let e : 0 + k ≡ k = omega arith in e)

-- the first element passes, or a later one does
position_here : {X : Type 0} (p : X → Bool) (x : X) (xs : List X) → p x ≡ true → position p (x ∷ xs) ≡ Some 0
position_here p x xs here = rw (here, lt-ltb 0 (length (x ∷ xs)) (omega arith)) refl

position_past : {X : Type 0} (p : X → Bool) (x : X) (xs : List X) → p x ≡ false → position p (x ∷ xs) ≡ shifted 1 (position p xs)
position_past p x xs away =
    let n = position_or_len p xs in
    elim (cases_lt n (length xs)) [
      | inl lt ↦ rw (away, lt-ltb (1 + n) (length (x ∷ xs)) (omega arith), lt-ltb n (length xs) lt) refl
      | inr le ↦ rw (away, le-ltb (1 + n) (length (x ∷ xs)) (omega arith), le-ltb n (length xs) le) refl
    ]

-- the first light that passes, at a cell that may have an across and a down light
abbrev Tested : (Light → Bool) → Light → Light → Bool → Bool → List Light → Option ℕ → Type 0
Tested p across down has_across has_down rest index = position p ((cond has_across (across ∷ []) [] ++ cond has_down (down ∷ []) []) ++ rest) ≡ index

across_bad : (p : Light → Bool) (across down : Light) (has_down : Bool) (rest : List Light) → p across ≡ true → Tested p across down true has_down rest (Some 0)
across_bad p across down has_down rest bad = position_here p across _ bad

down_bad : (p : Light → Bool) (across down : Light) (has_across : Bool) (rest : List Light) → p across ≡ false → p down ≡ true → Tested p across down has_across true rest (Some (cond has_across 1 0))
down_bad p across down true rest fine bad = position_past p across (down ∷ rest) fine ∙ ap (shifted 1) (position_here p down rest bad)
down_bad p across down false rest fine bad = position_here p down rest bad

none_bad : (p : Light → Bool) (across down : Light) (has_across has_down : Bool) (rest : List Light) → (has_across && p across) ≡ false → (has_down && p down) ≡ false
    → Tested p across down has_across has_down rest (shifted (length (cond has_across (across ∷ []) [] ++ cond has_down (down ∷ []) [])) (position p rest))
none_bad p across down true true rest one two = position_past p across (down ∷ rest) one ∙ ap (shifted 1) (position_past p down rest two) ∙ shifted_twice 1 1 (position p rest)
none_bad p across down true false rest one two = position_past p across rest one
none_bad p across down false true rest one two = position_past p down rest two
none_bad p across down false false rest one two = sym (shifted_by_none (position p rest))

-- ---- the lights that begin at a cell

-- a light of this direction begins at the cell, and its clue cannot be written
abbrev pub is_bad_at : Grid → ClueMap → Direction → Cell → Bool
is_bad_at grid clues direction cell = begins grid direction cell && not (is_clue (clue_at clues cell direction))

bad_here : (grid : Grid) (clues : ClueMap) (direction : Direction) (cell : Cell) (rest : List Light) → is_bad_at grid clues direction cell ≡ true → position (is_bad_clue direction clues) (lights_at grid cell ++ rest) ≡ Some (index_at grid direction cell)
bad_here grid clues Across cell rest bad =
    let both = and_parts (begins grid Across cell) (not (is_clue (clue_at clues cell Across))) bad in
    rw both.0 (across_bad (is_bad_clue Across clues) (light_starting grid Across cell) (light_starting grid Down cell) (begins grid Down cell) rest both.1)
bad_here grid clues Down cell rest bad =
    let both = and_parts (begins grid Down cell) (not (is_clue (clue_at clues cell Down))) bad in
    rw both.0 (down_bad (is_bad_clue Down clues) (light_starting grid Across cell) (light_starting grid Down cell) (begins grid Across cell) rest refl both.1)

none_here : (grid : Grid) (clues : ClueMap) (direction : Direction) (cell : Cell) (rest : List Light) → is_bad_at grid clues direction cell ≡ false
    → position (is_bad_clue direction clues) (lights_at grid cell ++ rest) ≡ shifted (length (lights_at grid cell)) (position (is_bad_clue direction clues) rest)
none_here grid clues Across cell rest fine = none_bad (is_bad_clue Across clues) (light_starting grid Across cell) (light_starting grid Down cell) (begins grid Across cell) (begins grid Down cell) rest fine (and-false (begins grid Down cell))
none_here grid clues Down cell rest fine = none_bad (is_bad_clue Down clues) (light_starting grid Across cell) (light_starting grid Down cell) (begins grid Across cell) (begins grid Down cell) rest (and-false (begins grid Across cell)) fine

-- ---- the loop

-- `before` lights begin before cell k, and the index found from there on gives the index among all lights
pub record IndexLeft (grid : Grid) (clues : ClueMap) (direction : Direction) (k before : ℕ) : Type 0 where
  pub few : before ≤ 2 * k
  pub index : shifted before (position (is_bad_clue direction clues) (flat_map (lights_at grid) (drop k (cells grid)))) ≡ bad_clue direction clues (lights_of grid)

pub index_starts : (grid : Grid) (clues : ClueMap) (direction : Direction) → IndexLeft grid clues direction 0 0
index_starts grid clues direction = record { few = omega arith; index = shifted_by_none _ }

pub index_found : (grid : Grid) (clues : ClueMap) (direction : Direction) (size k before : ℕ) (cell : Cell) → size ≡ grid.width * grid.height → k < size → cell ≡ cell_at grid k → is_bad_at grid clues direction cell ≡ true → IndexLeft grid clues direction k before
    → Some (before + index_at grid direction cell) ≡ bad_clue direction clues (lights_of grid)
index_found grid clues direction size k before cell is lt at bad left =
    ap (shifted before) (sym (bad_here grid clues direction cell (flat_map (lights_at grid) (drop (k + 1) (cells grid))) bad))
    ∙ ap (λ (cs : List Cell). shifted before (position (is_bad_clue direction clues) (flat_map (lights_at grid) cs))) (sym (cells_drop grid size k cell is lt at)) ∙ left.index

pub index_goes_on : (grid : Grid) (clues : ClueMap) (direction : Direction) (size k before count : ℕ) (cell : Cell) → size ≡ grid.width * grid.height → k < size → cell ≡ cell_at grid k → is_bad_at grid clues direction cell ≡ false → count ≡ length (lights_at grid cell) → count ≤ 2
    → IndexLeft grid clues direction k before → IndexLeft grid clues direction (k + 1) (before + count)
index_goes_on grid clues direction size k before count cell is lt at fine counted small left =
    let rest = flat_map (lights_at grid) (drop (k + 1) (cells grid)) in
    record {
      few = omega (arith, left.few);
      index = ap (λ (n : ℕ). shifted (before + n) (position (is_bad_clue direction clues) rest)) counted
          ∙ sym (shifted_twice before (length (lights_at grid cell)) (position (is_bad_clue direction clues) rest))
          ∙ ap (shifted before) (sym (none_here grid clues direction cell rest fine))
          ∙ ap (λ (cs : List Cell). shifted before (position (is_bad_clue direction clues) (flat_map (lights_at grid) cs))) (sym (cells_drop grid size k cell is lt at)) ∙ left.index;
    }

pub no_index : (grid : Grid) (clues : ClueMap) (direction : Direction) (size k before : ℕ) → size ≡ grid.width * grid.height → size ≤ k → IndexLeft grid clues direction k before → None ≡ bad_clue direction clues (lights_of grid)
no_index grid clues direction size k before is le left =
    ap (λ (cs : List Cell). shifted before (position (is_bad_clue direction clues) (flat_map (lights_at grid) cs))) (sym (cells_past grid size k is le)) ∙ left.index
