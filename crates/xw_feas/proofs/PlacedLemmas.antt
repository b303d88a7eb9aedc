-- What placing a word changes of a grid.
use Rattle.std.proofs.Common.{◌≡◌, ℕ, zero, suc, ◌*◌, ◌<◌, Bool, true, false, cond, List, [], ◌∷◌, map, length, get_or, set, Some, None, refl, sym, ◌∙◌, ap, subst, eqb, arith, inl, inr, length-set}
use Rattle.std.specs.Prelude.{Option, Result, Ok, Err, slice_get, position, Contains}
use Rattle.std.proofs.lemmas.Bool.{cases_Bool, eqb-true}
use Rattle.std.proofs.lemmas.List.{get_or-map, get_or-set_same, length-map}
use Rattle.std.proofs.lemmas.Option.{slice_get-get_or}
use Rattle.xw_letters.specs.Letter.{folded}
use Rattle.xw_words.specs.Word.{is_bad_letter}
use Rattle.xw_grid.specs.declared.cell.Cell.{Cell}
use Rattle.xw_grid.specs.declared.cell.Square.TheVariants.{Block, Open}
use Rattle.xw_grid.specs.declared.cell.Direction.{Direction}
use Rattle.xw_grid.specs.declared.cell.Direction.TheVariants.{Across, Down}
use Rattle.xw_grid.specs.declared.lights.Light.{Light}
use Rattle.xw_grid.specs.Grid.{Grid, IsGrid, is_inside, index_of, cell_at, square_at, letter_in, entry}
use Rattle.xw_grid.specs.Edit.{with_entry}
use Rattle.xw_grid.specs.Light.{step, lights_of, cells_of, index_named, no_cell, no_light}
use Rattle.xw_grid.proofs.GridLemmas.{index_of-lt, cell_at-index_of}
use Rattle.xw_grid.proofs.LightLemmas.{length-line, get_or-line}
use Rattle.xw_grid.proofs.LightTableLemmas.{light_inside}
use Rattle.xw_feas.specs.declared.edit.Refusal.{Refusal}
use Rattle.xw_feas.specs.declared.edit.Refusal.TheVariants as refusals
use Rattle.xw_feas.specs.PlacedWord.{IsPlaced, WordsArePlaced}
use Rattle.xw_feas.specs.State.{with_letters, placed_in, spelled_in}
use Rattle.xw_feas.proofs.BoardLemmas.{length-lights}
use Rattle.xw_feas.proofs.Elements.{slice_get-set_other}
use Rattle.xw_feas.proofs.WordsLemmas.{named_within}

-- ---- one letter

-- the letter is in its cell
letter_here : (grid : Grid) (cell : Cell) (letter : ℕ) → length grid.squares ≡ grid.width * grid.height → is_inside grid cell ≡ true → entry (with_entry grid cell (Some letter)) cell ≡ Some letter
letter_here grid cell letter long inside =
    let index = index_of grid cell in
    let below : index < length grid.squares = omega (arith, index_of-lt grid cell inside, long) in
    let below' : index < length (set grid.squares index (Open (Some letter))) = omega (arith, below, length-set grid.squares index (Open (Some letter))) in
    ap (λ b. letter_in (cond b (slice_get (set grid.squares index (Open (Some letter))) index) None)) inside
    ∙ ap letter_in (slice_get-get_or (set grid.squares index (Open (Some letter))) index Block below' ∙ ap Some (get_or-set_same grid.squares index (Open (Some letter)) Block below))

-- another cell is as before
square_elsewhere : (grid : Grid) (cell other : Cell) (letter : Option ℕ) → is_inside grid cell ≡ true → (other ≡ cell → ⊥) → square_at (with_entry grid cell letter) other ≡ square_at grid other
square_elsewhere grid cell other letter inside apart =
    let squares = set grid.squares (index_of grid cell) (Open letter) in
    elim (cases_Bool (is_inside grid other)) [
      | inl here ↦
          ap (λ b. cond b (slice_get squares (index_of grid other)) None) here
          ∙ slice_get-set_other grid.squares (index_of grid cell) (index_of grid other) (Open letter)
          (λ same. apart (sym (cell_at-index_of grid other here) ∙ ap (cell_at grid) same ∙ cell_at-index_of grid cell inside))
          ∙ sym (ap (λ b. cond b (slice_get grid.squares (index_of grid other)) None) here)
      | inr out ↦
          ap (λ b. cond b (slice_get squares (index_of grid other)) None) out
          ∙ sym (ap (λ b. cond b (slice_get grid.squares (index_of grid other)) None) out)
    ]

-- ---- letters in distinct cells of the grid

abbrev AreInGrid : Grid → List Cell → Type 0
AreInGrid grid cells = (k : ℕ) (d : Cell) → k < length cells → is_inside grid (get_or cells k d) ≡ true

abbrev AreDistinct : List Cell → Type 0
AreDistinct cells = (j k : ℕ) (d : Cell) → j < length cells → k < length cells → get_or cells j d ≡ get_or cells k d → j ≡ k

squares_elsewhere : (grid : Grid) (cells : List Cell) (letters : List ℕ) → AreInGrid grid cells → (other : Cell) → ¬ Contains cells other → square_at (with_letters grid cells letters) other ≡ square_at grid other
squares_elsewhere grid [] letters inside other apart = refl
squares_elsewhere grid (cell ∷ cells) [] inside other apart = refl
squares_elsewhere grid (cell ∷ cells) (letter ∷ letters) inside other apart =
    squares_elsewhere (with_entry grid cell (Some letter)) cells letters (λ k d below. inside (suc k) d (omega (arith, below))) other
    (λ there. apart (suc there.0, omega (arith, there.1), there.2))
    ∙ square_elsewhere grid cell other (Some letter) (inside 0 cell (omega arith)) (λ same. apart (0, omega arith, sym same))

letters_here : (grid : Grid) (cells : List Cell) (letters : List ℕ) → length grid.squares ≡ grid.width * grid.height → AreInGrid grid cells → AreDistinct cells
    → (k : ℕ) (d : Cell) → k < length cells → k < length letters → entry (with_letters grid cells letters) (get_or cells k d) ≡ Some (get_or letters k 0)
letters_here grid [] letters long inside distinct k d below under = absurd (omega (arith, below))
letters_here grid (cell ∷ cells) [] long inside distinct k d below under = absurd (omega (arith, under))
letters_here grid (cell ∷ cells) (letter ∷ letters) long inside distinct zero d below under =
    ap letter_in (squares_elsewhere (with_entry grid cell (Some letter)) cells letters (λ k d below. inside (suc k) d (omega (arith, below))) cell
    (λ there. let same : 0 ≡ suc there.0 = distinct 0 (suc there.0) cell (omega arith) (omega (arith, there.1)) (sym there.2) in cc))
    ∙ letter_here grid cell letter long (inside 0 cell (omega arith))
letters_here grid (cell ∷ cells) (letter ∷ letters) long inside distinct (suc k) d below under =
    letters_here (with_entry grid cell (Some letter)) cells letters (length-set grid.squares (index_of grid cell) (Open (Some letter)) ∙ long) (λ j e lt. inside (suc j) e (omega (arith, lt)))
    (λ i j e lt lt' same. let next : suc i ≡ suc j = distinct (suc i) (suc j) e (omega (arith, lt)) (omega (arith, lt')) same in omega (arith, next)) k d (omega (arith, below)) (omega (arith, under))

only_squares : (grid : Grid) (cells : List Cell) (letters : List ℕ) → with_letters grid cells letters ≡ record grid { squares = (with_letters grid cells letters).squares }
only_squares grid [] letters = refl
only_squares grid (cell ∷ cells) [] = refl
only_squares grid (cell ∷ cells) (letter ∷ letters) = only_squares (with_entry grid cell (Some letter)) cells letters

-- ---- the cells of a light

steps_apart : (direction : Direction) (first : Cell) (j k : ℕ) → step direction first j ≡ step direction first k → j ≡ k
steps_apart Across first j k same = omega (arith, ap (λ (cell : Cell). cell.col) same)
steps_apart Down first j k same = omega (arith, ap (λ (cell : Cell). cell.row) same)

light_distinct : (light : Light) → AreDistinct (cells_of light)
light_distinct light j k d below below' same =
    let long = length-line light.name.direction light.start light.size in
    steps_apart light.name.direction light.start j k
    (sym (get_or-line light.name.direction light.start light.size j d (omega (arith, below, long))) ∙ same ∙ get_or-line light.name.direction light.start light.size k d (omega (arith, below', long)))

light_in_grid : (grid : Grid) (index : ℕ) → index < length (lights_of grid) → AreInGrid grid (cells_of (get_or (lights_of grid) index no_light))
light_in_grid grid index within k d below =
    let light = get_or (lights_of grid) index no_light in
    let under : k < light.size = omega (arith, below, length-line light.name.direction light.start light.size) in
    ap (is_inside grid) (get_or-line light.name.direction light.start light.size k d under) ∙ light_inside grid index no_light within k under

-- ---- a word

spelled_is_placed : (grid : Grid) (index : ℕ) (word : List ℕ) → IsGrid grid → index < length (lights_of grid) → length word ≡ (get_or (lights_of grid) index no_light).size
    → IsPlaced grid (with_letters grid (cells_of (get_or (lights_of grid) index no_light)) (map folded word)) (get_or (lights_of grid) index no_light) word
spelled_is_placed grid index word is within long =
    let light = get_or (lights_of grid) index no_light in
    record {
      long = long;
      letters = λ k below.
          letters_here grid (cells_of light) (map folded word) is.squares (light_in_grid grid index within) (light_distinct light) k no_cell
          (omega (arith, below, length-line light.name.direction light.start light.size)) (omega (arith, below, long, length-map word folded))
          ∙ ap Some (get_or-map folded word k 0 0 (omega (arith, below, long)));
      others = λ cell apart. squares_elsewhere grid (cells_of light) (map folded word) (light_in_grid grid index within) cell apart;
      rest = only_squares grid (cells_of light) (map folded word);
    }

pub words_are_placed : WordsArePlaced
words_are_placed before after name word is made = by_light (index_named (lights_of before) name) refl made where
  by_size : (index : ℕ) → index < length (lights_of before) → (is_long : Bool) → eqb (length word) (get_or (lights_of before) index no_light).size ≡ is_long
      → cond {A = Result Grid Refusal} is_long (Ok (with_letters before (cells_of (get_or (lights_of before) index no_light)) (map folded word))) (Err refusals.PlaceLength) ≡ Ok after
      → IsPlaced before after (get_or (lights_of before) index no_light) word
  by_size index within true fits h =
      let same : with_letters before (cells_of (get_or (lights_of before) index no_light)) (map folded word) ≡ after = cc in
      subst (λ (grid : Grid). IsPlaced before grid (get_or (lights_of before) index no_light) word) same
      (spelled_is_placed before index word is within (eqb-true (length word) (get_or (lights_of before) index no_light).size fits))
  by_size index within false fits h = cc

  by_letters : (index : ℕ) → index < length (lights_of before) → (bad : Option ℕ) → spelled_in before (get_or (lights_of before) index no_light) bad word ≡ Ok after → IsPlaced before after (get_or (lights_of before) index no_light) word
  by_letters index within None h = by_size index within _ refl h
  by_letters index within (Some at) h = cc

  by_light : (found : Option ℕ) → index_named (lights_of before) name ≡ found → placed_in before found word ≡ Ok after
      → (index : ℕ) × (index_named (lights_of before) name ≡ Some index) × IsPlaced before after (get_or (lights_of before) index no_light) word
  by_light None found h = cc
  by_light (Some index) found h =
      (index, found, by_letters index (omega (arith, named_within before name index found, length-lights before)) (position is_bad_letter word) h)
