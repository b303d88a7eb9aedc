-- Properties that hold of every element of a list.
use Rattle.std.proofs.Common.{◌≡◌, ℕ, zero, suc, ◌<◌, Bool, true, List, [], ◌∷◌, ◌++◌, length, get_or, refl, arith}
use Rattle.std.specs.List.{AllByRecursion, list_all}
use Rattle.std.proofs.lemmas.Bool.{and_parts}

module _ {X : Type 0} (P : X → Type 0) where
  pub all_at : (xs : List X) → AllByRecursion P xs → (k : ℕ) (d : X) → k < length xs → P (get_or xs k d)
  all_at [] all k d lt = absurd (omega arith)
  all_at (x ∷ xs) all zero d lt = all.0
  all_at (x ∷ xs) all (suc k) d lt = all_at xs all.1 k d (omega arith)

  pub all_from : (xs : List X) → ((k : ℕ) (d : X) → k < length xs → P (get_or xs k d)) → AllByRecursion P xs
  all_from [] each = tt
  all_from (x ∷ xs) each = (each 0 x (omega arith), all_from xs (λ k d lt. each (suc k) d (omega arith)))

  pub all_append : (xs ys : List X) → AllByRecursion P xs → AllByRecursion P ys → AllByRecursion P (xs ++ ys)
  all_append [] ys all more = more
  all_append (x ∷ xs) ys all more = (all.0, all_append xs ys all.1 more)

-- a test passes for the list if and only if every element passes it
pub all_pass : {X : Type 0} (p : X → Bool) (xs : List X) → list_all p xs ≡ true → AllByRecursion (λ x. p x ≡ true) xs
all_pass p [] all = tt
all_pass p (x ∷ xs) all = let parts = and_parts (p x) (list_all p xs) all in (parts.0, all_pass p xs parts.1)

pub pass_all : {X : Type 0} (p : X → Bool) (xs : List X) → AllByRecursion (λ x. p x ≡ true) xs → list_all p xs ≡ true
pass_all p [] all = refl
pass_all p (x ∷ xs) all = rw (all.0, pass_all p xs all.1) refl
