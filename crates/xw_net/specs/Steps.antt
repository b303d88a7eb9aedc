-- What a step of stripping keeps.
use Rattle.std.specs.Prelude.{◌≡◌, ◌⊎◌, ℕ, ◌≤◌, ◌+◌, ◌||◌, ◌==◌, Bool, true, false, List, length, slice_index_or}
use Rattle.xw_letters.specs.LetterSet.{has}
use Rattle.xw_words.specs.Dictionary.{Dictionary, Entry}
use Rattle.xw_feas.specs.Board.{Board}
use Rattle.xw_feas.specs.Feasible.{IsFeasibleWord}
use Rattle.xw_net.specs.Marks.{IsPositionIn, IsSlot, IsSetting, IsHeld, IsHolding, IsReady, Stays, AreSlotsApart, puts, cell_at, slot_at}
use Rattle.xw_net.specs.Due.{Measure, IsUnderway, IsClosed, HasQueued, and_light, set_cost}
use Rattle.xw_net.specs.Nets.{marks_of, word_stands, letter_stands, pending_in, queued_in, Waits, left_of, IsShaped, IsLeft, HasBits}
use Rattle.xw_net.specs.Filled.{IsUnstripped, IsFilled}
use Rattle.xw_net.specs.Spread.{OtherRowsStay}
use Rattle.xw_net.specs.declared.net.Net.{Net}
use Rattle.xw_net.specs.declared.light_position.LightPosition.{LightPosition}

-- the light was queued
abbrev pub IsQueuedToo : ℕ → Net → Net → Type 0
IsQueuedToo light old new = (other : ℕ) → queued_in new other ≡ (queued_in old other || (other == light))

-- queued lights stay in the queue: if a light's flag implied that it is there, it still does
abbrev pub WaitMore : Net → Net → Type 0
WaitMore old new = (light : ℕ) → Waits old light → Waits new light

-- no letter became pending
abbrev pub PendLess : Net → Net → Type 0
PendLess old new = (slot letter : ℕ) → pending_in old slot letter ≡ false → pending_in new slot letter ≡ false

-- only words and pending letters were removed
pub record IsStruck (old new : Net) : Type 0 where
  pub letters : new.letters ≡ old.letters
  pub held : new.held ≡ old.held
  pub queue : new.queue ≡ old.queue

-- only words of this light, its flag and pending letters changed
pub record IsStruckAt (light : ℕ) (old new : Net) : Type 0 where
  pub rest : new ≡ record old { rows = new.rows; entered = new.entered; pending = new.pending }
  pub rows : OtherRowsStay light old.rows.items new.rows.items
  pub flags : (other : ℕ) → (other ≡ light → ⊥) → slice_index_or new.entered.items other false ≡ slice_index_or old.entered.items other false
  pub many : length new.entered.items ≡ length old.entered.items

-- only pending letters and the queue changed
abbrev pub IsLeftPending : Net → Net → Type 0
IsLeftPending old new = new ≡ record old { pending = new.pending; queue = new.queue }

-- only letters, pending letters and the queue changed
abbrev pub IsStruckFrom : Net → Net → Type 0
IsStruckFrom old new = new ≡ record old { letters = new.letters; pending = new.pending; queue = new.queue }

-- the net has no word of the light
abbrev pub IsEmptied : Net → ℕ → Type 0
IsEmptied net light = (choice : ℕ) → word_stands net light choice ≡ false

-- no letter came back
abbrev pub StandFewer : Net → Net → Type 0
StandFewer old new = (cell letter : ℕ) → letter_stands new cell letter ≡ true → letter_stands old cell letter ≡ true

-- each letter of the cell is in the set
abbrev pub StandListed : ℕ → ℕ → Net → Type 0
StandListed cell listed net = (letter : ℕ) → letter_stands net cell letter ≡ true → has listed letter ≡ true

-- no other letter of the cell was removed
abbrev pub OthersStand : ℕ → ℕ → Net → Net → Type 0
OthersStand cell letter old new = (other : ℕ) → (other ≡ letter → ⊥) → letter_stands old cell other ≡ true → letter_stands new cell other ≡ true

module _ (board : Board) where
  -- no letter is pending at the position
  abbrev pub IsCleared : Net → ℕ → ℕ → Type 0
  IsCleared net light position = (letter : ℕ) → pending_in net (slot_at board light position) letter ≡ false

  -- letters became pending only at slots of the board's lights
  abbrev pub PendAtSlots : Net → Net → Type 0
  PendAtSlots old new = (slot letter : ℕ) → pending_in new slot letter ≡ true → (pending_in old slot letter ≡ true) ⊎ IsSlot board slot

  -- removing the letters at a position that are not in a set, which has each of them that a word of the light has there, keeps the
  -- invariant and costs nothing
  abbrev pub ListsOn : ℕ → ℕ → ℕ → Net → Net → Type 0
  ListsOn light position listed old new =
      (dictionary : Dictionary) (measure : Measure) (ticks : ℕ) → AreSlotsApart board → measure.member light ≡ true
      → ((letter choice : ℕ) → letter_stands old (cell_at board light position) letter ≡ true → word_stands old light choice ≡ true → puts board dictionary light position letter choice ≡ true → has listed letter ≡ true)
      → IsUnderway board dictionary measure (marks_of old) (and_light (queued_in old) light) ticks → IsUnderway board dictionary measure (marks_of new) (and_light (queued_in new) light) ticks

  module _ (entries : ℕ → List Entry) where
    -- what stripping needs of a net: its arrays have the right sizes, with a bit for each known word
    pub record IsStrippable (net : Net) : Type 0 where
      pub shaped : IsShaped board net
      pub bits : HasBits board entries net

    -- what each step of stripping keeps: the sizes, and all that stripping does not change
    pub record IsStep (old new : Net) : Type 0 where
      pub shaped : IsShaped board new
      pub bits : HasBits board entries new
      pub rest : IsLeft old new

    -- the letter has a support if it is in the net
    abbrev pub IsLetterHeld : Net → LightPosition → ℕ → Type 0
    IsLetterHeld net here letter =
        (dictionary : Dictionary) → IsSetting board entries dictionary → letter_stands net here.cell letter ≡ true → IsHeld board dictionary (marks_of net) here.light here.position letter

    -- each letter at the position has a support
    abbrev pub ArePositionHeld : Net → ℕ → ℕ → Type 0
    ArePositionHeld net light position =
        (dictionary : Dictionary) → IsSetting board entries dictionary → (letter : ℕ) → letter_stands net (cell_at board light position) letter ≡ true
        → IsHeld board dictionary (marks_of net) light position letter

    -- each letter of the light has a support
    abbrev pub AreLightHeld : Net → ℕ → Type 0
    AreLightHeld net light =
        (dictionary : Dictionary) → IsSetting board entries dictionary → (position letter : ℕ) → IsPositionIn board light position → letter_stands net (cell_at board light position) letter ≡ true
        → IsHeld board dictionary (marks_of net) light position letter

    -- the letters of the light keep their supports
    abbrev pub KeepSupports : ℕ → Net → Net → Type 0
    KeepSupports light old new = (dictionary : Dictionary) → IsSetting board entries dictionary → Stays board dictionary light (marks_of old) (marks_of new)

    -- each held word still has the letter that it is held for
    abbrev pub KeepsHolding : Net → Net → Type 0
    KeepsHolding old new = (dictionary : Dictionary) → IsSetting board entries dictionary → IsHolding board dictionary (marks_of old) → IsHolding board dictionary (marks_of new)

    -- what a check of letters keeps: the measure of the remaining work does not grow, queued lights stay
    -- in the queue, held words have their letters, and letters become pending only at slots of lights
    pub record IsCheck (old new : Net) : Type 0 where
      pub fewer : left_of new ≤ left_of old
      pub waits : WaitMore old new
      pub holding : KeepsHolding old new
      pub pending : PendAtSlots old new

    -- a step keeps the invariant of stripping, and the ticks stay within the budget
    abbrev pub StepsOn : Net → ℕ → Net → ℕ → Type 0
    StepsOn old ticks new ticks' =
        (dictionary : Dictionary) (measure : Measure) → IsSetting board entries dictionary
        → IsUnderway board dictionary measure (marks_of old) (queued_in old) ticks → IsUnderway board dictionary measure (marks_of new) (queued_in new) ticks'

    -- a step keeps the invariant
    abbrev pub StaysReady : Net → Net → Type 0
    StaysReady old new = (dictionary : Dictionary) → IsSetting board entries dictionary → IsReady board dictionary (marks_of old) → IsReady board dictionary (marks_of new)

    -- a step that removes words from a queued light keeps the invariant and the budget
    abbrev pub StrikesOn : ℕ → Net → ℕ → Net → ℕ → Type 0
    StrikesOn light old ticks new ticks' =
        (dictionary : Dictionary) (measure : Measure) → IsSetting board entries dictionary → queued_in old light ≡ true → measure.member light ≡ true
        → IsUnderway board dictionary measure (marks_of old) (queued_in old) ticks → IsUnderway board dictionary measure (marks_of new) (queued_in new) ticks'

    -- a step that checks letters of a light, which counts as queued, keeps the invariant and the budget
    abbrev pub ChecksOn : ℕ → Net → ℕ → Net → ℕ → Type 0
    ChecksOn light old ticks new ticks' =
        (dictionary : Dictionary) (measure : Measure) → IsSetting board entries dictionary → measure.member light ≡ true
        → IsUnderway board dictionary measure (marks_of old) (and_light (queued_in old) light) ticks → IsUnderway board dictionary measure (marks_of new) (and_light (queued_in new) light) ticks'

    -- stripping prepares the net for the next edit
    abbrev pub FillsNet : Net → Net → Type 0
    FillsNet old new = (dictionary : Dictionary) → IsSetting board entries dictionary → IsUnstripped board dictionary old → IsFilled board dictionary new

    -- a light is dead if all that was feasible was in the net: it has no feasible word
    abbrev pub Dies : Net → ℕ → Type 0
    Dies old light = (dictionary : Dictionary) → IsSetting board entries dictionary → IsReady board dictionary (marks_of old) → (word : List ℕ) → ¬ IsFeasibleWord board dictionary light word

    -- stripping spends at most the cost of a set of lights that has the queued ones and is closed
    abbrev pub StripsWithin : Net → ℕ → ℕ → Type 0
    StripsWithin old ticks ticks' =
        (dictionary : Dictionary) (member : ℕ → Bool) → IsSetting board entries dictionary → IsReady board dictionary (marks_of old) → IsClosed board dictionary member (letter_stands old) → HasQueued board member (marks_of old)
        → ticks' ≤ ticks + set_cost board dictionary member
