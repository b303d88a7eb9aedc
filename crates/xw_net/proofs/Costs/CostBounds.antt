-- The costs of reviving and of stripping a set of lights, as sums over all lights. Together they
-- are at most the cost of the set.
use Rattle.std.proofs.Common.{◌≡◌, ℕ, zero, suc, ◌+◌, ◌*◌, ◌<◌, ◌≤◌, Bool, true, false, cond, List, length, refl, ◌∙◌, arith}
use Rattle.std.proofs.lemmas.Nat.{mul-le}
use Rattle.xw_words.specs.Dictionary.{known_words}
use Rattle.xw_feas.specs.Board.{board_of, light_at}
use Rattle.xw_feas.specs.State.{State}
use Rattle.xw_feas.specs.WellFormed.{IsLaidOut}
use Rattle.xw_net.specs.Region.{chunks_of, light_cost, cost}
use Rattle.xw_net.specs.Sums.{sum_below}
use Rattle.xw_net.specs.Due.{sum_to, strip_cost, set_cost}
use Rattle.xw_net.specs.Brought.{base_cost}
use Rattle.xw_net.specs.Cost.{light_revival_cost, revival_cost, light_stripping_cost, stripping_cost}
use Rattle.xw_net.proofs.Costs.CostsByLight.{cost-indices, sum-indices}

sum_to-is : (f : ℕ → ℕ) (n : ℕ) → sum_below f n ≡ sum_to f n
unfolding sum_to
sum_to-is f zero = refl
sum_to-is f (suc n) = omega (arith, sum_to-is f n)

pub revival-is : (state : State) (member : List ℕ → Bool) → revival_cost state member ≡ base_cost (board_of state.grid) (known_words state.words) (λ light. member (light_at (board_of state.grid) light))
unfolding base_cost
revival-is state member =
    sum-indices state (light_revival_cost state.words) member
    ∙ sum_to-is (λ light. cond (member (light_at (board_of state.grid) light)) (light_revival_cost state.words (light_at (board_of state.grid) light)) 0) (length (board_of state.grid).lights)

pub stripping-is : (state : State) (member : List ℕ → Bool) → stripping_cost state member ≡ set_cost (board_of state.grid) state.words (λ light. member (light_at (board_of state.grid) light))
unfolding set_cost
stripping-is state member =
    sum-indices state (light_stripping_cost state.words) member
    ∙ sum_to-is (λ light. cond (member (light_at (board_of state.grid) light)) (light_stripping_cost state.words (light_at (board_of state.grid) light)) 0) (length (board_of state.grid).lights)

sums-le : (f g h : ℕ → ℕ) (n : ℕ) → ((k : ℕ) → k < n → f k + g k ≤ h k) → sum_to f n + sum_to g n ≤ sum_below h n
unfolding sum_to
sums-le f g h zero each = omega arith
sums-le f g h (suc n) each = omega (arith, sums-le f g h n (λ k below. each k (omega arith)), each n (omega arith))

-- a light with at least two cells
light-le : (len known chunks : ℕ) → 2 ≤ len → (len + 1) * chunks + len * (100 * chunks + 4 * known + 1) ≤ len * (128 * chunks + 4 * known + 1)
light-le len known chunks several =
    let first : (len + 1) * chunks ≡ len * chunks + chunks = grind arith in
    let second : len * (100 * chunks + 4 * known + 1) ≡ 100 * (len * chunks) + 4 * (len * known) + len = grind arith in
    let third : len * (128 * chunks + 4 * known + 1) ≡ 128 * (len * chunks) + 4 * (len * known) + len = grind arith in
    let least : 1 * chunks ≤ len * chunks = mul-le 1 chunks len chunks (omega arith) (omega arith) in
    omega (arith, first, second, third, least)

pub settled_cost : (state : State) (member : List ℕ → Bool) → IsLaidOut (board_of state.grid) → revival_cost state member + stripping_cost state member ≤ cost state member
unfolding base_cost set_cost
settled_cost state member laid_out =
    omega (
      arith,
      cost-indices state member,
      revival-is state member,
      stripping-is state member,
      sums-le
          (λ light. cond (member (light_at (board_of state.grid) light)) ((length (light_at (board_of state.grid) light) + 1) * chunks_of (length (known_words state.words (length (light_at (board_of state.grid) light))))) 0)
          (λ light. cond (member (light_at (board_of state.grid) light)) (strip_cost (board_of state.grid) state.words light) 0)
          (λ light. cond (member (light_at (board_of state.grid) light)) (light_cost state.words (light_at (board_of state.grid) light)) 0)
          (length (board_of state.grid).lights)
          (λ light below. here light below (member (light_at (board_of state.grid) light))),
    ) where
      here : (light : ℕ) → light < length (board_of state.grid).lights → (b : Bool)
          → cond b ((length (light_at (board_of state.grid) light) + 1) * chunks_of (length (known_words state.words (length (light_at (board_of state.grid) light))))) 0
          + cond b (strip_cost (board_of state.grid) state.words light) 0 ≤ cond b (light_cost state.words (light_at (board_of state.grid) light)) 0
      here light below true =
          light-le (length (light_at (board_of state.grid) light)) (length (known_words state.words (length (light_at (board_of state.grid) light))))
          (chunks_of (length (known_words state.words (length (light_at (board_of state.grid) light))))) (laid_out.several light below)
      here light below false = omega arith
