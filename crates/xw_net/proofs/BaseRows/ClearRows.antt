-- A row with no set bits.
use Rattle.std.proofs.Common.{◌≡◌, ℕ, zero, suc, Bool, true, false, cond, List, [], ◌∷◌, get_or, count_by, refl, arith}
use Rattle.std.proofs.lemmas.List.Sums.{sum_by-cons}

-- if no bit is counted, each is false
pub none_set : (bits : List Bool) → count_by (λ bit. bit) bits ≡ 0 → (i : ℕ) → get_or bits i false ≡ false
none_set [] none i = refl
none_set (false ∷ bits) none zero = refl
none_set (false ∷ bits) none (suc i) = none_set bits (omega (arith, none, sum_by-cons (λ bit. cond bit 1 0) false bits)) i
none_set (true ∷ bits) none i = absurd (omega (arith, none, sum_by-cons (λ bit. cond bit 1 0) true bits))
