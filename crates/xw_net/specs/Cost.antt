-- Upper bounds for the ticks of an edit and of each of its two phases.
use Rattle.std.specs.Prelude.{ℕ, ◌+◌, ◌-◌, ◌*◌, Bool, List, filter, length}
use Rattle.std.specs.List.{sum_by}
use Rattle.xw_words.specs.Dictionary.{Dictionary, known_words}
use Rattle.xw_feas.specs.Board.{board_of}
use Rattle.xw_feas.specs.State.{State, Action}
use Rattle.xw_net.specs.Region.{chunks_of, IsWithinCost}

-- the cost of reviving a light: for each position one read of the known words of its length, and
-- one read of which are active
abbrev pub light_revival_cost : Dictionary → List ℕ → ℕ
light_revival_cost dictionary light = (length light + 1) * chunks_of (length (known_words dictionary (length light)))

-- the cost of reviving the lights of a set
abbrev pub revival_cost : State → (List ℕ → Bool) → ℕ
revival_cost after member = sum_by (light_revival_cost after.words) (filter member (board_of after.grid).lights)

-- the cost of stripping a light
abbrev pub light_stripping_cost : Dictionary → List ℕ → ℕ
light_stripping_cost dictionary light = length light * (100 * chunks_of (length (known_words dictionary (length light))) + 4 * length (known_words dictionary (length light)) + 1)

-- the cost of stripping the lights of a set
abbrev pub stripping_cost : State → (List ℕ → Bool) → ℕ
stripping_cost after member = sum_by (light_stripping_cost after.words) (filter member (board_of after.grid).lights)

-- the ticks have risen by at most the cost of the edit
abbrev pub RoseWithinCost : State → State → Action → ℕ → ℕ → Type 0
RoseWithinCost before now action spent_before spent_now = IsWithinCost before now action (spent_now - spent_before)
