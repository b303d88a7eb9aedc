-- The ticks that stripping may still spend, and an upper bound for all of them.
use Rattle.std.specs.Prelude.{◌≡◌, ℕ, zero, suc, ◌+◌, ◌-◌, ◌*◌, ◌/◌, ◌<◌, ◌≤◌, Bool, true, ◌&&◌, ◌||◌, ◌==◌, not, nat_lt, length, if◌then◌else◌}
use Rattle.xw_words.specs.Dictionary.{Dictionary}
use Rattle.xw_feas.specs.Board.{Board, light_at}
use Rattle.xw_feas.specs.Feasible.{IsFeasibleLetter}
use Rattle.xw_net.specs.Region.{chunks_of}
use Rattle.xw_net.specs.Marks.{Marks, IsPositionIn, cell_at, slot_at, known, puts, IsKept}

-- f 0 + .. + f (n - 1)
unfoldable pub sum_to : (ℕ → ℕ) → ℕ → ℕ
sum_to f zero = 0
sum_to f (suc n) = sum_to f n + f n

-- the number of passing numbers among n consecutive ones
unfoldable pub count_from : (ℕ → Bool) → ℕ → ℕ → ℕ
count_from f from zero = 0
count_from f from (suc n) = (if f from then 1 else 0) + count_from f (from + 1) n

-- the sum over the letters A to Z
abbrev pub sum_letters : (ℕ → ℕ) → ℕ
sum_letters f = sum_to (λ k. f (65 + k)) 26

-- the ticks that the remaining searches for a letter's supports may spend, among `count` words of
-- which those that pass `has` have the letter. A search goes on from the held word, unless it has
-- to restart at the first word
abbrev pub ahead_of : (ℕ → Bool) → ℕ → ℕ → Bool → ℕ
ahead_of has count held restart =
    if nat_lt held count && not restart
    then (chunks_of count - held / 64) + count_from has held (count - held)
    else 2 * chunks_of count + count_from has 0 count

-- the ticks a letter may still cost: its searches and one removal of its words if it is there, only
-- the removal if it is pending
unfoldable pub due_of : (ℕ → Bool) → ℕ → Bool → ℕ → Bool → Bool → ℕ
due_of has count stands held restart pending = if stands then chunks_of count + ahead_of has count held restart else (if pending then chunks_of count else 0)

module _ (board : Board) (dictionary : Dictionary) where
  -- the number of chunks of the known words of a light's length
  abbrev pub chunks : ℕ → ℕ
  chunks light = chunks_of (known board dictionary light)

  -- the ticks that a letter at a position may still cost
  unfoldable pub due_letter : Marks → ℕ → ℕ → ℕ → ℕ
  due_letter marks light position letter =
      due_of (puts board dictionary light position letter) (known board dictionary light) (marks.letters (cell_at board light position) letter)
      (marks.held (slot_at board light position) letter) (marks.restart (slot_at board light position) letter) (marks.pending (slot_at board light position) letter)

  -- the ticks that a position may still cost
  unfoldable pub due_position : Marks → ℕ → ℕ → ℕ
  due_position marks light position = sum_letters (due_letter marks light position)

  -- the ticks that a light may still cost
  unfoldable pub due_light : Marks → ℕ → ℕ
  due_light marks light = sum_to (due_position marks light) (length (light_at board light))

  -- the ticks that the lights of a set may still cost
  unfoldable pub due : (ℕ → Bool) → Marks → ℕ
  due member marks = sum_to (λ light. if member light then due_light marks light else 0) (length board.lights)

  -- an upper bound for the ticks of stripping a light
  abbrev pub strip_cost : ℕ → ℕ
  strip_cost light = length (light_at board light) * (100 * chunks light + 4 * known board dictionary light + 1)

  -- an upper bound for the ticks of stripping the lights of a set
  unfoldable pub set_cost : (ℕ → Bool) → ℕ
  set_cost member = sum_to (λ light. if member light then strip_cost light else 0) (length board.lights)

  -- a set of lights is closed if, with a light, it contains every light through a cell of it that
  -- has a letter that is not feasible
  abbrev pub IsClosed : (ℕ → Bool) → (ℕ → ℕ → Bool) → Type 0
  IsClosed member letters =
      (light position other other_position letter : ℕ) → IsPositionIn board light position → IsPositionIn board other other_position
      → cell_at board other other_position ≡ cell_at board light position → letters (cell_at board light position) letter ≡ true
      → ¬ IsFeasibleLetter board dictionary (cell_at board light position) letter → member light ≡ true → member other ≡ true

-- the set contains the queued lights
abbrev pub HasQueued : Board → (ℕ → Bool) → Marks → Type 0
HasQueued board member marks = (light : ℕ) → light < length board.lights → marks.queued light ≡ true → member light ≡ true

-- what bounds the cost of stripping: the lights that it may reach, the letters at its start, and a
-- budget of ticks
pub record Measure : Type 0 where
  pub member : ℕ → Bool
  pub letters : ℕ → ℕ → Bool
  pub budget : ℕ

-- the ticks spent and the ticks that may still come are within the budget
pub record IsPaid (board : Board) (dictionary : Dictionary) (measure : Measure) (marks : Marks) (spent : ℕ) : Type 0 where
  pub closed : IsClosed board dictionary measure.member measure.letters
  pub within : spent + due board dictionary measure.member marks ≤ measure.budget
  pub queued : HasQueued board measure.member marks
  pub fewer : (cell letter : ℕ) → marks.letters cell letter ≡ true → measure.letters cell letter ≡ true

-- the invariant of stripping: the marks are sound, and the ticks within budget
pub record IsUnderway (board : Board) (dictionary : Dictionary) (measure : Measure) (marks : Marks) (free : ℕ → Bool) (spent : ℕ) : Type 0 where
  pub kept : IsKept board dictionary marks free
  pub paid : IsPaid board dictionary measure marks spent

-- the queued lights and one more
abbrev pub and_light : (ℕ → Bool) → ℕ → ℕ → Bool
and_light queued light other = queued other || (other == light)
