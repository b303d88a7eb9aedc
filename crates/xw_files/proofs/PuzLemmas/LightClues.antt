-- Clues set for the lights of a grid are the clues of these lights.
use Rattle.std.proofs.Common.{◌≡◌, ℕ, suc, ◌<◌, Bool, true, false, cond, ◌&&◌, List, [], ◌∷◌, map, length, get_or, refl, sym, ap, ◌∙◌, arith, inl, inr}
use Rattle.std.proofs.lemmas.Bool.{false_from_ne_true}
use Rattle.xw_grid.specs.declared.cell.Direction.{Direction}
use Rattle.xw_grid.specs.declared.cell.Direction.TheVariants.{Across, Down}
use Rattle.xw_grid.specs.declared.lights.Light.{Light}
use Rattle.xw_grid.specs.Grid.{Grid, same_cell}
use Rattle.xw_grid.specs.Light.{lights_of, number_at, same_direction}
use Rattle.xw_grid.specs.LightLaws.{IsBefore}
use Rattle.xw_grid.specs.Clue.{ClueMap, with_clue}
use Rattle.xw_grid.proofs.GridLemmas.{and-true, same_cell_itself, cells_same}
use Rattle.xw_grid.proofs.KeptLemmas.{clues_are_kept}
use Rattle.xw_grid.proofs.LightLemmas.{lights_are_lights}
use Rattle.xw_grid.proofs.OrderLemmas.{lights_are_ordered}
use Rattle.xw_grid.specs.Puzzle.{clue_of}
use Rattle.xw_files.specs.Puz.Board.{with_clues}

-- two lights have the same start and direction
abbrev same_start : Light → Light → Bool
same_start a b = same_direction a.name.direction b.name.direction && same_cell a.start b.start

abbrev AreDistinct : List Light → Type 0
AreDistinct lights = (i j : ℕ) (d : Light) → i < j → j < length lights → same_start (get_or lights j d) (get_or lights i d) ≡ false

directions-same : (a b : Direction) → same_direction a b ≡ true → a ≡ b
directions-same Across Across e = refl
directions-same Across Down e = cc
directions-same Down Across e = cc
directions-same Down Down e = refl

itself : (light : Light) → same_start light light ≡ true
itself light = rw (same_cell_itself light.start) (elim light.name.direction as (λ d. (same_direction d d && true) ≡ true) [ Across ↦ refl | Down ↦ refl ])

across-is-down : ◌≡◌ {A = Direction} Across Down → ⊥
across-is-down e = cc

not-before : (a b : Light) → a.name.number ≡ b.name.number → a.name.direction ≡ b.name.direction → IsBefore a.name b.name → ⊥
not-before a b n d (inl less) = omega (arith, n, less)
not-before a b n d (inr order) = across-is-down (sym order.1 ∙ d ∙ order.2)

lights-distinct : (grid : Grid) → AreDistinct (lights_of grid)
lights-distinct grid i j d before within =
    let first = get_or (lights_of grid) i d in
    let later = get_or (lights_of grid) j d in
    false_from_ne_true (same_start later first) (λ e.
    let both = and-true (same_direction later.name.direction first.name.direction) (same_cell later.start first.start) e in
    let start : later.start ≡ first.start = cells_same later.start first.start both.1 in
    let number : first.name.number ≡ later.name.number = (lights_are_lights grid i d (omega arith)).1 ∙ ap (number_at grid) (sym start) ∙ sym (lights_are_lights grid j d within).1 in
    not-before first later number (sym (directions-same later.name.direction first.name.direction both.0)) (lights_are_ordered grid i j d before within))

clue-kept : (clues : ClueMap) (light other : Light) (text : List ℕ) → clue_of (with_clue clues light.start light.name.direction text) other ≡ cond (same_start light other) text (clue_of clues other)
clue-kept clues light other text = clues_are_kept clues light.start other.start light.name.direction other.name.direction text

-- setting clues of other lights keeps the clue of a light
clue-left : (clues : ClueMap) (light : Light) (lights : List Light) (texts : List (List ℕ)) → ((k : ℕ) (d : Light) → k < length lights → same_start (get_or lights k d) light ≡ false) → clue_of (with_clues clues lights texts) light ≡ clue_of clues light
clue-left clues light [] [] other = refl
clue-left clues light [] (text ∷ texts) other = refl
clue-left clues light (first ∷ lights) [] other = refl
clue-left clues light (first ∷ lights) (text ∷ texts) other =
    clue-left (with_clue clues first.start first.name.direction text) light lights texts (λ k d h. other (suc k) d (omega arith))
    ∙ clue-kept clues first light text
    ∙ rw (other 0 light (omega arith)) refl

clues-back : (clues : ClueMap) (lights : List Light) (texts : List (List ℕ)) → AreDistinct lights → length texts ≡ length lights → map (clue_of (with_clues clues lights texts)) lights ≡ texts
clues-back clues [] [] distinct long = refl
clues-back clues [] (text ∷ texts) distinct long = absurd (omega (arith, long))
clues-back clues (light ∷ lights) [] distinct long = absurd (omega (arith, long))
clues-back clues (light ∷ lights) (text ∷ texts) distinct long =
    let now = with_clue clues light.start light.name.direction text in
    let here : clue_of (with_clues now lights texts) light ≡ text = clue-left now light lights texts (λ k d h. distinct 0 (suc k) d (omega arith) (omega arith)) ∙ clue-kept clues light light text ∙ rw (itself light) refl in
    let there = clues-back now lights texts (λ i j d before within. distinct (suc i) (suc j) d (omega arith) (omega arith)) (omega (arith, long)) in
    rw (here, there) refl

-- one clue for each light of a grid
pub light-clues-back : (grid : Grid) (clues : ClueMap) (texts : List (List ℕ)) → length texts ≡ length (lights_of grid) → map (clue_of (with_clues clues (lights_of grid) texts)) (lights_of grid) ≡ texts
light-clues-back grid clues texts long = clues-back clues (lights_of grid) texts (lights-distinct grid) long
