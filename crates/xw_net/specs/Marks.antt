-- The state of a net as sets and relations, and the invariants of stripping.
use Rattle.std.specs.Prelude.{◌≡◌, ◌⊎◌, ℕ, ◌+◌, ◌*◌, ◌^◌, ◌<◌, ◌≤◌, Bool, true, false, ◌&&◌, ◌||◌, ◌==◌, not, List, length, slice_index, if◌then◌else◌}
use Rattle.xw_letters.specs.Letter.{is_capital}
use Rattle.xw_words.specs.Dictionary.{Dictionary, Entry, known_words, IsDictionary}
use Rattle.xw_feas.specs.Board.{Board, light_at, IsCrossing}
use Rattle.xw_feas.specs.Choices.{choice_at, CoversSupported, IsWithinBase}
use Rattle.xw_feas.specs.WellFormed.{IsLaidOut}

-- each cell has two slots, one for each direction; a light goes across if its second cell follows
-- its first in reading order
abbrev pub side_of : List ℕ → ℕ
side_of cells = if slice_index cells 1 == slice_index cells 0 + 1 then 0 else 1

module _ (board : Board) where
  -- indices of slots and letters do not overflow
  abbrev pub HasFewCells : Type 0
  HasFewCells = length board.open_cells < 2 ^ 32

  -- the list has a set of letters for each cell
  abbrev pub AreByCell : List ℕ → Type 0
  AreByCell sets = length sets ≡ length board.open_cells

  -- the list has a set of letters for each slot
  abbrev pub AreBySlot : List ℕ → Type 0
  AreBySlot sets = length sets ≡ 2 * length board.open_cells

  -- the list has an index for each slot and letter
  abbrev pub AreHeld : List ℕ → Type 0
  AreHeld held = length held ≡ 52 * length board.open_cells

  -- the light is on the board, and has the position
  abbrev pub IsPositionIn : ℕ → ℕ → Type 0
  IsPositionIn light position = (light < length board.lights) × (position < length (light_at board light))

  -- the cell at a position of a light
  abbrev pub cell_at : ℕ → ℕ → ℕ
  cell_at light position = slice_index (light_at board light) position

  -- the slot at a position of a light
  abbrev pub slot_at : ℕ → ℕ → ℕ
  slot_at light position = 2 * cell_at light position + side_of (light_at board light)

  -- the slot is that of some position of a light
  abbrev pub IsSlot : ℕ → Type 0
  IsSlot slot = (light : ℕ) × (position : ℕ) × IsPositionIn light position × (slot_at light position ≡ slot)

  -- different positions have different slots
  abbrev pub AreSlotsApart : Type 0
  AreSlotsApart = (light position other other_position : ℕ) → IsPositionIn light position → IsPositionIn other other_position
      → slot_at light position ≡ slot_at other other_position → (light ≡ other) × (position ≡ other_position)

-- another light crosses at the position
pub record IsOther (board : Board) (light position other other_position : ℕ) : Type 0 where
  pub position_there : IsPositionIn board other other_position
  pub apart : other ≡ light → ⊥
  pub meets : cell_at board other other_position ≡ cell_at board light position

-- the board is laid out, and the words that are read are those of the dictionary
pub record IsSetting (board : Board) (entries : ℕ → List Entry) (dictionary : Dictionary) : Type 0 where
  pub laid_out : IsLaidOut board
  pub apart : AreSlotsApart board
  pub words : IsDictionary dictionary
  pub read : (len : ℕ) → entries len ≡ known_words dictionary len

-- the state of a net
pub record Marks : Type 0 where
  -- the words of each light, and the letters of each cell
  pub words : ℕ → ℕ → Bool
  pub letters : ℕ → ℕ → Bool
  -- for each slot and letter the word held as its support, and whether words before it may have
  -- come back
  pub held : ℕ → ℕ → ℕ
  pub restart : ℕ → ℕ → Bool
  -- for each slot the letters that were removed and whose words are still to be removed from the
  -- light
  pub pending : ℕ → ℕ → Bool
  -- the queued lights
  pub queued : ℕ → Bool

module _ (board : Board) (dictionary : Dictionary) where
  -- the number of known words of the light's length; it is also the number of the word that its
  -- letters spell
  abbrev pub known : ℕ → ℕ
  known light = length (known_words dictionary (length (light_at board light)))

  -- the letter of a word at a position
  abbrev pub letter_of : ℕ → ℕ → ℕ → ℕ
  letter_of light choice position = slice_index (choice_at board dictionary light choice) position

  -- whether a word has the letter at a position
  abbrev pub puts : ℕ → ℕ → ℕ → ℕ → Bool
  puts light position letter choice = letter_of light choice position == letter

  -- the letter has a support
  pub data IsHeld (marks : Marks) (light position letter : ℕ) : Type 0 where
    -- the word held for it is in the net
    by_held : marks.held (slot_at board light position) letter < known light → marks.words light (marks.held (slot_at board light position) letter) ≡ true → IsHeld marks light position letter
    -- a word that has it is in the net
    by_word : (choice : ℕ) → marks.words light choice ≡ true → puts light position letter choice ≡ true → IsHeld marks light position letter
    -- the entered word is in the net
    by_entered : marks.words light (known light) ≡ true → IsHeld marks light position letter

  -- each held known word has the letter that it is held for, even if the letter is not in the net
  abbrev pub IsHolding : Marks → Type 0
  IsHolding marks =
      (light position letter : ℕ) → IsPositionIn board light position → is_capital letter ≡ true → marks.held (slot_at board light position) letter < known light
      → puts light position letter (marks.held (slot_at board light position) letter) ≡ true

  -- the invariant of the marks at every step of stripping
  pub record IsSound (marks : Marks) : Type 0 where
    -- only base words and allowed letters are in the net
    pub within : IsWithinBase board dictionary marks.words marks.letters
    -- every supported family is in the net
    pub covers : CoversSupported board dictionary marks.words marks.letters
    -- each letter of a word in the net is in the net, or pending at its slot
    pub spelled : (light position choice : ℕ) → IsPositionIn board light position → marks.words light choice ≡ true
        → (marks.letters (cell_at board light position) (letter_of light choice position) || marks.pending (slot_at board light position) (letter_of light choice position)) ≡ true
    -- a pending letter is not in the net, and its light is queued
    pub pending_gone : (light position letter : ℕ) → IsPositionIn board light position → marks.pending (slot_at board light position) letter ≡ true
        → marks.letters (cell_at board light position) letter ≡ false
    pub pending_queued : (light position letter : ℕ) → IsPositionIn board light position → marks.pending (slot_at board light position) letter ≡ true → marks.queued light ≡ true
    -- a held known word has its letter, and is the first such word in the net unless words may have
    -- come back
    pub hits : (light position letter : ℕ) → IsPositionIn board light position → marks.letters (cell_at board light position) letter ≡ true
        → marks.held (slot_at board light position) letter < known light → puts light position letter (marks.held (slot_at board light position) letter) ≡ true
    pub first : (light position letter choice : ℕ) → IsPositionIn board light position → marks.letters (cell_at board light position) letter ≡ true
        → marks.held (slot_at board light position) letter < known light → marks.restart (slot_at board light position) letter ≡ false
        → choice < known light → marks.words light choice ≡ true → puts light position letter choice ≡ true → marks.held (slot_at board light position) letter ≤ choice

  -- the marks are sound, and each letter at a light outside `free` has a support
  pub record IsKept (marks : Marks) (free : ℕ → Bool) : Type 0 where
    pub sound : IsSound marks
    pub held : (light position letter : ℕ) → IsPositionIn board light position → free light ≡ false → marks.letters (cell_at board light position) letter ≡ true → IsHeld marks light position letter

  -- the invariant between two steps: each letter at a light that is not queued has a support
  abbrev pub IsReady : Marks → Type 0
  IsReady marks = IsKept marks marks.queued

  -- the invariant at the end of stripping: in addition, no light is queued and nothing is pending
  pub record IsSettledNet (marks : Marks) : Type 0 where
    pub ready : IsReady marks
    pub none_queued : (light : ℕ) → light < length board.lights → marks.queued light ≡ false
    pub none_pending : (light position letter : ℕ) → IsPositionIn board light position → marks.pending (slot_at board light position) letter ≡ false

  -- each letter of a light that had a support still has one, unless the letter was removed
  abbrev pub Stays : ℕ → Marks → Marks → Type 0
  Stays light old new = (position letter : ℕ) → IsPositionIn board light position
      → (old.letters (cell_at board light position) letter ≡ true → IsHeld old light position letter)
      → new.letters (cell_at board light position) letter ≡ true → IsHeld new light position letter

-- letters that were removed from the cell at a position are left pending for the crossing light, if
-- there is one, which is queued
pub data LeavesPending (board : Board) (light position : ℕ) (gone : ℕ → Bool) (old new : Marks) : Type 0 where
  crossed : (other : ℕ) → IsCrossing board light (cell_at board light position) other → ((one : ℕ) → IsCrossing board light (cell_at board light position) one → other ≡ one)
      → ((slot letter : ℕ) → new.pending slot letter ≡ (old.pending slot letter || ((slot == 2 * cell_at board light position + side_of (light_at board other)) && gone letter)))
      → ((one : ℕ) → new.queued one ≡ (old.queued one || (one == other))) → LeavesPending board light position gone old new
  alone : ((one : ℕ) → IsCrossing board light (cell_at board light position) one → ⊥)
      → ((slot letter : ℕ) → new.pending slot letter ≡ old.pending slot letter) → ((one : ℕ) → new.queued one ≡ old.queued one) → LeavesPending board light position gone old new

-- a letter is removed from the cell at a position; it becomes pending for the crossing light, if
-- there is one, which is queued
pub record Drops (board : Board) (light position letter : ℕ) (old new : Marks) : Type 0 where
  pub letters : (cell other : ℕ) → new.letters cell other ≡ (old.letters cell other && not ((cell == cell_at board light position) && (other == letter)))
  pub crossing : (other other_position : ℕ) → IsOther board light position other other_position → new.pending (slot_at board other other_position) letter ≡ true
  pub pending_more : (slot other : ℕ) → old.pending slot other ≡ true → new.pending slot other ≡ true
  pub pending_new : (slot gone : ℕ) → new.pending slot gone ≡ true
      → (old.pending slot gone ≡ true) ⊎ ((gone ≡ letter) × ((other : ℕ) × (other_position : ℕ) × IsOther board light position other other_position × (slot_at board other other_position ≡ slot) × (new.queued other ≡ true)))
  pub queued_more : (other : ℕ) → old.queued other ≡ true → new.queued other ≡ true
  pub queued_new : (other : ℕ) → new.queued other ≡ true → (old.queued other ≡ true) ⊎ ((other_position : ℕ) × IsOther board light position other other_position)
