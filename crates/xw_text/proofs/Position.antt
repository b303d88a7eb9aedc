-- The index of the first item that passes a test, as std's `position` finds it.
use Rattle.std.proofs.Common.{◌≡◌, ℕ, zero, suc, ◌+◌, ◌<◌, ◌≤◌, Bool, true, false, cond, not, List, [], ◌∷◌, length, get_or, refl, arith}
use Rattle.std.specs.Prelude.{Some, None, position}
use Rattle.std.specs.List.{position_or_len}
use Rattle.std.proofs.lemmas.List.Sums.{position_or_len_is}

pub position_is_some : {X : Type 0} (p : X → Bool) (xs : List X) (index : ℕ) (d : X) → index < length xs → ((k : ℕ) → k < index → p (get_or xs k d) ≡ false) → p (get_or xs index d) ≡ true → position p xs ≡ Some index
position_is_some p xs index d within before here =
    let e : position_or_len p xs ≡ index = position_or_len_is p xs index d (omega arith) before (λ _. here) in
    rw e (grind arith)

pub position_is_none : {X : Type 0} (p : X → Bool) (xs : List X) (d : X) → ((k : ℕ) → k < length xs → p (get_or xs k d) ≡ false) → position p xs ≡ None
position_is_none p xs d nowhere =
    let e : position_or_len p xs ≡ length xs = position_or_len_is p xs (length xs) d (omega arith) nowhere (λ h. absurd (omega arith)) in
    rw e (grind arith)

pub position_or_len_le : {X : Type 0} (p : X → Bool) (xs : List X) (k : ℕ) (d : X) → k < length xs → p (get_or xs k d) ≡ true → position_or_len p xs ≤ k
position_or_len_le p [] k d within here = absurd (omega arith)
position_or_len_le p (x ∷ xs) zero d within here = rw here (omega arith)
position_or_len_le p (x ∷ xs) (suc k) d within here =
    let rest : position_or_len p xs ≤ k = position_or_len_le p xs k d (omega arith) here in
    elim (p x) as (λ b. cond (not b) (1 + position_or_len p xs) 0 ≤ suc k) [ true ↦ omega arith | false ↦ omega arith ]

pub position-None : {X : Type 0} (p : X → Bool) (xs : List X) → position p xs ≡ None → (k : ℕ) (d : X) → k < length xs → p (get_or xs k d) ≡ false
position-None p xs nowhere k d within =
    elim (p (get_or xs k d)) as (λ b. p (get_or xs k d) ≡ b → b ≡ false) [
      | true ↦ λ here.
          let le : position_or_len p xs ≤ k = position_or_len_le p xs k d within here in
          let lt : position_or_len p xs < length xs = omega arith in
          absurd (grind arith)
      | false ↦ λ _. refl
    ] refl
