-- What follows from the result of a comparison.
use Rattle.std.proofs.Common.{◌≡◌, ℕ, ◌<◌, ◌≤◌, Bool, true, false, not, nat_eq, nat_lt, refl, rules}

pub below : (n m : ℕ) → n < m → nat_lt n m ≡ true
below n m h = search rules

pub not-below : (n m : ℕ) → m ≤ n → nat_lt n m ≡ false
not-below n m h = search rules

pub not-same : (n m : ℕ) → (n ≡ m → ⊥) → nat_eq n m ≡ false
not-same n m h = search rules

pub not-false : (b : Bool) → false ≡ not b → b ≡ true
not-false true e = refl
not-false false e = cc

pub not-true : (b : Bool) → true ≡ not b → b ≡ false
not-true false e = refl
not-true true e = cc
