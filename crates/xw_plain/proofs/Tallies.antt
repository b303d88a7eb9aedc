-- Counting words by letter.
use Rattle.std.proofs.Common.{◌≡◌, ℕ, zero, suc, ◌+◌, ◌<◌, Bool, true, false, cond, ◌&&◌, List, [], ◌∷◌, length, get_or, take, count_by, refl, ◌∙◌, arith}
use Rattle.std.proofs.lemmas.List.Sums.{sum_by-cons}
use Rattle.xw_feas.specs.AnswersOf.{items_where}

module _ {X : Type 0} (test : X → Bool) (d : X) where
  -- an item counts if it passes
  first : (b : Bool) (x : X) (rest : List X) → count_by test (cond b (x ∷ rest) rest) ≡ cond (b && test x) 1 0 + count_by test rest
  first true x rest = sum_by-cons (λ y. cond (test y) 1 0) x rest
  first false x rest = omega arith

  none : (xs : List X) → count_by test (items_where [] xs) ≡ 0
  none [] = refl
  none (x ∷ xs) = none xs

  -- the count with one more flag
  pub count_more : (flags : List Bool) (xs : List X) (k : ℕ) → k < length flags → k < length xs
      → count_by test (items_where (take (suc k) flags) xs) ≡ count_by test (items_where (take k flags) xs) + cond (get_or flags k false && test (get_or xs k d)) 1 0
  count_more [] xs k in_flags in_items = absurd (omega (arith, in_flags))
  count_more (flag ∷ flags) [] k in_flags in_items = absurd (omega (arith, in_items))
  count_more (flag ∷ flags) (x ∷ xs) zero in_flags in_items =
      first flag x (items_where [] xs) ∙ omega (arith, none xs)
  count_more (flag ∷ flags) (x ∷ xs) (suc k) in_flags in_items =
      omega (arith, first flag x (items_where (take (suc k) flags) xs), first flag x (items_where (take k flags) xs), count_more flags xs k (omega (arith, in_flags)) (omega (arith, in_items)))

  pub count_none : (xs : List X) → count_by test (items_where [] xs) ≡ 0
  count_none xs = none xs
