-- The clues of lights, one for each.
use Rattle.std.proofs.Common.{Bor, map, get_or, length, ap, ◌∙◌, ◌≡◌, ℕ, zero, suc, ◌+◌, ◌<◌, List, [], ◌∷◌, drop, refl, arith}
use Rattle.std.proofs.lemmas.List.{at_drop_more}
use Rattle.std.specs.Prelude.{Some, None, slice_get}
use Rattle.xw_grid.specs.Clue.{ClueMap, with_clue}
use Rattle.xw_grid.specs.declared.lights.Light.{Light}
use Rattle.xw_files.specs.Puz.Board.{with_clues}

pub drop-got : {A : Type 0} (xs : List A) (i : ℕ) (x : A) → slice_get xs i ≡ Some x → drop i xs ≡ x ∷ drop (suc i) xs
drop-got [] i x h = cc
drop-got (y ∷ ys) zero x h = let e : y ≡ x = cc in rw e refl
drop-got (y ∷ ys) (suc i) x h = drop-got ys i x h

pub drop-none : {A : Type 0} (xs : List A) (i : ℕ) → slice_get xs i ≡ None → drop i xs ≡ []
drop-none [] zero h = refl
drop-none [] (suc i) h = refl
drop-none (y ∷ ys) zero h = cc
drop-none (y ∷ ys) (suc i) h = drop-none ys i h

pub with_clues-none : (clues : ClueMap) (texts : List (List ℕ)) → with_clues clues [] texts ≡ clues
with_clues-none clues [] = refl
with_clues-none clues (text ∷ texts) = refl

-- setting the clue of the next light
pub clues-step : (clues : ClueMap) (lights : List Light) (texts : List (Bor (List ℕ))) (i : ℕ) (light : Light) (d : Bor (List ℕ)) → slice_get lights i ≡ Some light → i < length texts
    → with_clues clues (drop i lights) (map (λ text. text.now) (drop i texts)) ≡ with_clues (with_clue clues light.start light.name.direction (get_or texts i d).now) (drop (i + 1) lights) (map (λ text. text.now) (drop (i + 1) texts))
clues-step clues lights texts i light d got within =
    at_drop_more (λ rest. with_clues clues (drop i lights) (map (λ text. text.now) rest)) texts i d within
    ∙ ap (λ rest. with_clues clues rest (map (λ text. text.now) (get_or texts i d ∷ drop (i + 1) texts))) (let e = drop-got lights i light got in let plus : suc i ≡ i + 1 = omega arith in rw plus at e)

-- no light is left
pub clues-end : (clues : ClueMap) (lights : List Light) (texts : List (List ℕ)) (i : ℕ) → slice_get lights i ≡ None → with_clues clues (drop i lights) texts ≡ clues
clues-end clues lights texts i none = ap (λ rest. with_clues clues rest texts) (drop-none lights i none) ∙ with_clues-none clues texts
