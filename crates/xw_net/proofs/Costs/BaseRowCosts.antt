-- The cost of updating the base rows of a set of lights, light by light.
use Rattle.std.proofs.Common.{◌≡◌, ℕ, suc, ◌+◌, ◌*◌, Bool, true, cond, List, length, ap, arith}
use Rattle.std.proofs.lemmas.Bool.{cond-true}
use Rattle.xw_words.specs.Dictionary.{Entry}
use Rattle.xw_feas.specs.Board.{Board, light_at}
use Rattle.xw_net.specs.Region.{chunks_of}
use Rattle.xw_net.specs.Due.{sum_to}
use Rattle.xw_net.specs.Brought.{base_cost}

-- the cost of a light, if it is in the set
abbrev pub cost_here : Board → (ℕ → List Entry) → (ℕ → Bool) → ℕ → ℕ
cost_here board entries member light = cond (member light) ((length (light_at board light) + 1) * chunks_of (length (entries (length (light_at board light))))) 0

-- the cost of the first lights
unfoldable pub cost_below : Board → (ℕ → List Entry) → (ℕ → Bool) → ℕ → ℕ
cost_below board entries member n = sum_to (cost_here board entries member) n

pub cost_more : (board : Board) (entries : ℕ → List Entry) (member : ℕ → Bool) (n : ℕ) → cost_below board entries member (n + 1) ≡ cost_below board entries member n + cost_here board entries member n
unfolding cost_below sum_to
cost_more board entries member n = let e : n + 1 ≡ suc n = omega arith in ap (sum_to (cost_here board entries member)) e

pub cost_in : (board : Board) (entries : ℕ → List Entry) (member : ℕ → Bool) (n : ℕ) → member n ≡ true
    → cost_here board entries member n ≡ (length (light_at board n) + 1) * chunks_of (length (entries (length (light_at board n))))
cost_in board entries member n has = cond-true (member n) ((length (light_at board n) + 1) * chunks_of (length (entries (length (light_at board n))))) 0 has

pub cost_all : (board : Board) (entries : ℕ → List Entry) (member : ℕ → Bool) (n : ℕ) → n ≡ length board.lights → cost_below board entries member n ≡ base_cost board entries member
unfolding cost_below base_cost
cost_all board entries member n e = ap (sum_to (cost_here board entries member)) e
