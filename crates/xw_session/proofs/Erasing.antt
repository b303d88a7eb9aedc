-- The cells that erase empties.
use Rattle.std.proofs.Common.{◌≡◌, ℕ, ◌+◌, Bool, true, false, cond, List, [], ◌∷◌, ◌++◌, length, refl, sym, ◌∙◌, ap, arith, zero-add, append-nil}
use Rattle.std.specs.Prelude.{Option, None, filter, ◌==◌}
use Rattle.std.proofs.lemmas.Bool.{eqb-true}
use Rattle.std.proofs.lemmas.List.{map-append}
use Rattle.std.proofs.lemmas.List.FromFn.{filter_of_map_range_with_len_more}
use Rattle.xw_grid.specs.declared.cell.Cell.{Cell}
use Rattle.xw_grid.specs.declared.cell.Direction.{Direction}
use Rattle.xw_grid.specs.Light.{step, line}
use Rattle.xw_session.specs.Erase.{or_else, emptied}

-- the cells that pass a test, one step further
module _ (test : Cell → Bool) (direction : Direction) (start : Cell) (k : ℕ) where
  abbrev so_far : List (Cell × Option ℕ)
  so_far = emptied (filter test (line direction start k))

  one_further : emptied (filter test (line direction start (k + 1))) ≡ so_far ++ emptied (cond (test (step direction start k)) (step direction start k ∷ []) [])
  one_further =
      ap emptied (filter_of_map_range_with_len_more test (step direction start) 0 k k (zero-add k))
      ∙ map-append (λ cell. (cell, None)) (filter test (line direction start k)) (cond (test (step direction start k)) (step direction start k ∷ []) [])

  pub with_one_more : (cell : Cell) → cell ≡ step direction start k → test cell ≡ true → emptied (filter test (line direction start (k + 1))) ≡ so_far ++ (cell, None) ∷ []
  with_one_more cell is passes =
      one_further
      ∙ ap (λ (c : Cell). so_far ++ emptied (cond (test c) (c ∷ []) [])) (sym is)
      ∙ ap (λ b. so_far ++ emptied (cond b (cell ∷ []) [])) passes

  pub without_it : (cell : Cell) → cell ≡ step direction start k → test cell ≡ false → emptied (filter test (line direction start (k + 1))) ≡ so_far
  without_it cell is fails =
      one_further
      ∙ ap (λ (c : Cell). so_far ++ emptied (cond (test c) (c ∷ []) [])) (sym is)
      ∙ ap (λ b. so_far ++ emptied (cond b (cell ∷ []) [])) fails
      ∙ append-nil so_far

-- the second list is taken exactly if the first is empty
pub first_taken : (cells others : List Cell) → (length (emptied cells) == 0) ≡ false → emptied (or_else cells others) ≡ emptied cells
first_taken [] others some = cc
first_taken (cell ∷ cells) others some = refl

pub second_taken : (cells others : List Cell) → (length (emptied cells) == 0) ≡ true → emptied (or_else cells others) ≡ emptied others
second_taken [] others none = refl
second_taken (cell ∷ cells) others none =
    let bad : length (emptied (cell ∷ cells)) ≡ 0 = eqb-true (length (emptied (cell ∷ cells))) 0 none in
    absurd (omega (arith, bad))
