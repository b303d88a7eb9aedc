-- The cost of a set of lights as a sum over the indices of all lights.
use Rattle.std.proofs.Common.{◌≡◌, ℕ, zero, suc, ◌+◌, ◌<◌, ◌≤◌, Bool, true, false, cond, List, [], ◌∷◌, length, get_or, refl, sym, ◌∙◌, ap, arith}
use Rattle.std.specs.Prelude.{filter}
use Rattle.std.specs.List.{sum_by}
use Rattle.std.proofs.lemmas.List.Sums.{sum_by-cons}
use Rattle.xw_feas.specs.Board.{board_of, light_at}
use Rattle.xw_feas.specs.State.{State}
use Rattle.xw_net.specs.Region.{light_cost, cost}
use Rattle.xw_net.specs.Sums.{sum_below}

pub sum_by-filter : {X : Type 0} (f : X → ℕ) (test : X → Bool) (xs : List X) → sum_by f (filter test xs) ≡ sum_by (λ x. cond (test x) (f x) 0) xs
sum_by-filter f test [] = refl
sum_by-filter {X} f test (x ∷ xs) = first (test x) ∙ ap (λ n. cond (test x) (f x) 0 + n) (sum_by-filter f test xs) ∙ sym (sum_by-cons (λ y. cond (test y) (f y) 0) x xs) where
  first : (b : Bool) → sum_by f (cond b (x ∷ filter test xs) (filter test xs)) ≡ cond b (f x) 0 + sum_by f (filter test xs)
  first true = sum_by-cons f x (filter test xs)
  first false = omega arith

-- sums with equal terms are equal
pub sum_below-agree : (f g : ℕ → ℕ) (n : ℕ) → ((k : ℕ) → k < n → f k ≡ g k) → sum_below f n ≡ sum_below g n
sum_below-agree f g zero same = refl
sum_below-agree f g (suc n) same = omega (arith, sum_below-agree f g n (λ k below. same k (omega arith)), same n (omega arith))

pub sum_below-le : (f g : ℕ → ℕ) (n : ℕ) → ((k : ℕ) → k < n → f k ≤ g k) → sum_below f n ≤ sum_below g n
sum_below-le f g zero less = omega arith
sum_below-le f g (suc n) less = omega (arith, sum_below-le f g n (λ k below. less k (omega arith)), less n (omega arith))

-- splits off the first term
pub sum_below-first : (f : ℕ → ℕ) (n : ℕ) → sum_below f (suc n) ≡ f 0 + sum_below (λ k. f (suc k)) n
sum_below-first f zero = omega arith
sum_below-first f (suc n) = omega (arith, sum_below-first f n)

pub sum_by-indices : {X : Type 0} (f : X → ℕ) (xs : List X) (d : X) → sum_by f xs ≡ sum_below (λ k. f (get_or xs k d)) (length xs)
sum_by-indices f [] d = refl
sum_by-indices f (x ∷ xs) d = sum_by-cons f x xs ∙ ap (λ n. f x + n) (sum_by-indices f xs d) ∙ sym (sum_below-first (λ k. f (get_or (x ∷ xs) k d)) (length xs))

pub sum-indices : (state : State) (f : List ℕ → ℕ) (member : List ℕ → Bool)
    → sum_by f (filter member (board_of state.grid).lights) ≡ sum_below (λ light. cond (member (light_at (board_of state.grid) light)) (f (light_at (board_of state.grid) light)) 0) (length (board_of state.grid).lights)
sum-indices state f member = sum_by-filter f member (board_of state.grid).lights ∙ sum_by-indices (λ light. cond (member light) (f light) 0) (board_of state.grid).lights []

pub cost-indices : (state : State) (member : List ℕ → Bool) → cost state member ≡ sum_below (λ light. cond (member (light_at (board_of state.grid) light)) (light_cost state.words (light_at (board_of state.grid) light)) 0) (length (board_of state.grid).lights)
cost-indices state member = sum-indices state (light_cost state.words) member
