-- What a revival along a chain of lights changes in a net.
use Rattle.std.specs.Prelude.{◌≡◌, ◌⊎◌, ℕ, ◌+◌, ◌*◌, ◌<◌, ◌≤◌, Bool, true, false, List, length, slice_index, Option, Some, IsTrue, ◌↔◌, if◌then◌else◌}
use Rattle.xw_bits.specs.Bits.{RowOfBits}
use Rattle.xw_letters.specs.Letter.{is_capital}
use Rattle.xw_words.specs.Dictionary.{Dictionary, Entry, known_words}
use Rattle.xw_feas.specs.Board.{Board, light_at}
use Rattle.xw_feas.specs.Feasible.{may_stand}
use Rattle.xw_feas.specs.Choices.{choice_at, is_base_at}
use Rattle.xw_net.specs.Base.{base_bits, base_row, IsRowBut, WasBase}
use Rattle.xw_net.specs.Region.{chunks_of}
use Rattle.xw_net.specs.Due.{sum_to}
use Rattle.xw_net.specs.Revival.{StandsOn, was, IsKept}
use Rattle.xw_net.specs.Marks.{Marks, IsPositionIn, cell_at, slot_at, known, puts, letter_of, IsHeld, IsHolding}
use Rattle.xw_net.specs.Spread.{bits_in, HasAll}

-- a base row for each light, with a bit for each known word of its length
pub record HasBase (board : Board) (entries : ℕ → List Entry) (base : List RowOfBits) : Type 0 where
  pub rows : length board.lights ≤ length base
  pub bits : (light : ℕ) → light < length board.lights → length (bits_in base light) ≡ length (entries (length (light_at board light)))

-- the bits of the base rows are right
abbrev pub IsBase : Board → Dictionary → List RowOfBits → Type 0
IsBase board dictionary base = (light : ℕ) → light < length board.lights → bits_in base light ≡ base_bits board (light_at board light) (known_words dictionary (length (light_at board light)))

-- an upper bound for the ticks spent on updating the base rows of a set of lights
unfoldable pub base_cost : Board → (ℕ → List Entry) → (ℕ → Bool) → ℕ
base_cost board entries member =
    sum_to (λ light. if member light then (length (light_at board light) + 1) * chunks_of (length (entries (length (light_at board light)))) else 0) (length board.lights)

-- the ticks spent are at most the cost of the lights that were read
abbrev pub CostsAtMost : Board → (ℕ → List Entry) → (ℕ → Bool) → ℕ → ℕ → Type 0
CostsAtMost board entries is_read ticks ticks' =
    (member : ℕ → Bool) → ((light : ℕ) → light < length board.lights → is_read light ≡ true → member light ≡ true) → ticks' ≤ ticks + base_cost board entries member

-- the base rows that were read are right if, before, they were right except perhaps for the changed word, or for the letter
-- of the filled cell
abbrev pub AreRead : Board → (ℕ → List Entry) → Option (ℕ × ℕ) → Option ℕ → (ℕ → Bool) → List RowOfBits → List RowOfBits → Type 0
AreRead board entries word filled is_read base base' =
    (light : ℕ) → light < length board.lights → is_read light ≡ true → IsRowBut board entries word light (bits_in base light) → WasBase board entries filled light (bits_in base light) → bits_in base' light ≡ base_row board entries light

-- the marks after words and letters came back along a chain of lights
pub record IsBrought (board : Board) (dictionary : Dictionary) (old new : Marks) (chain : ℕ → Bool) : Type 0 where
  pub lights : (light : ℕ) → chain light ≡ true → light < length board.lights
  -- a light on the chain has all its base words; any other light has the words it had
  pub words_on : (light choice : ℕ) → chain light ≡ true → new.words light choice ≡ is_base_at board dictionary light choice
  pub words_off : (light choice : ℕ) → chain light ≡ false → new.words light choice ≡ old.words light choice
  -- the cells of each light of the chain that has a base word have all letters that they allow
  pub letters_on : (light position choice : ℕ) → IsPositionIn board light position → chain light ≡ true → is_base_at board dictionary light choice ≡ true → HasAll board new.letters (cell_at board light position)
  -- each light through a cell where a letter came back is on the chain
  pub letters_off : (light position letter : ℕ) → IsPositionIn board light position
      → new.letters (cell_at board light position) letter ≡ true → old.letters (cell_at board light position) letter ≡ false → chain light ≡ true
  -- each letter was there or is allowed, and an allowed letter that was there stays
  pub letters_from : (cell letter : ℕ) → new.letters cell letter ≡ true → (old.letters cell letter ≡ true) ⊎ (may_stand board cell letter ≡ true)
  pub letters_stay : (cell letter : ℕ) → may_stand board cell letter ≡ true → old.letters cell letter ≡ true → new.letters cell letter ≡ true
  -- supports stay, but on the chain words before them may have come back
  pub held : (slot letter : ℕ) → new.held slot letter ≡ old.held slot letter
  pub restart_on : (light position letter : ℕ) → IsPositionIn board light position → chain light ≡ true → is_capital letter ≡ true → new.restart (slot_at board light position) letter ≡ true
  pub restart_off : (slot letter : ℕ) → ((light position : ℕ) → IsPositionIn board light position → slot_at board light position ≡ slot → chain light ≡ false)
      → new.restart slot letter ≡ old.restart slot letter
  pub pending : (slot letter : ℕ) → new.pending slot letter ≡ old.pending slot letter
  -- the lights of the chain are queued
  pub queued_on : (light : ℕ) → chain light ≡ true → new.queued light ≡ true
  pub queued_off : (light : ℕ) → chain light ≡ false → new.queued light ≡ old.queued light

module _ (before after : Board) (old new : Dictionary) (same : ℕ → Option ℕ) where
  -- where a chain may start after an edit: `words` and `letters` are those before, and `words'` and
  -- `letters'` those at the start
  pub record IsBegun (words letters words' letters' : ℕ → ℕ → Bool) (seed : ℕ → Bool) : Type 0 where
    -- each light that is not a seed has no new base words, and the words of it that are still base
    -- words
    pub kept : (light : ℕ) → light < length after.lights → seed light ≡ false → IsKept before after old new same light
    pub words_kept : (light choice : ℕ) → light < length after.lights → seed light ≡ false → IsTrue (words' light choice) ↔ (IsTrue (is_base_at after new light choice) × IsTrue (was before after old new same words light choice))
    -- an allowed letter is there if it was there before, was not allowed before, or is at a cell of
    -- a removed light
    pub letters_kept : (cell letter : ℕ) → IsTrue (may_stand after cell letter) → IsTrue (letters cell letter) → IsTrue (letters' cell letter)
    pub letters_come : (cell letter : ℕ) → IsTrue (may_stand after cell letter) → ¬ IsTrue (may_stand before cell letter) → IsTrue (letters' cell letter)
    pub freed : (other k : ℕ) → other < length before.lights → ¬ StandsOn after same other → k < length (light_at before other) → HasAll after letters' (slice_index (light_at before other) k)
    -- each light through a cell that has a new letter is a seed
    pub seeds : (light position letter : ℕ) → IsPositionIn after light position → IsTrue (letters' (cell_at after light position) letter)
        → ¬ IsTrue (letters (cell_at after light position) letter) → IsTrue (seed light)

-- the net is ready for stripping, except at the seeds
pub record IsReadyBut (board : Board) (dictionary : Dictionary) (marks : Marks) (seed : ℕ → Bool) : Type 0 where
  pub lights : (light choice : ℕ) → marks.words light choice ≡ true → light < length board.lights
  pub words : (light choice : ℕ) → seed light ≡ false → marks.words light choice ≡ true → is_base_at board dictionary light choice ≡ true
  pub letters : (cell letter : ℕ) → marks.letters cell letter ≡ true → may_stand board cell letter ≡ true
  pub spelled : (light position choice : ℕ) → IsPositionIn board light position → seed light ≡ false → marks.words light choice ≡ true
      → marks.letters (cell_at board light position) (letter_of board dictionary light choice position) ≡ true
  pub pending : (light position letter : ℕ) → IsPositionIn board light position → marks.pending (slot_at board light position) letter ≡ false
  -- each held known word has the letter that it is held for, at seeds too
  pub hits : IsHolding board dictionary marks
  pub first : (light position letter choice : ℕ) → IsPositionIn board light position → seed light ≡ false → marks.letters (cell_at board light position) letter ≡ true
      → marks.held (slot_at board light position) letter < known board dictionary light → marks.restart (slot_at board light position) letter ≡ false
      → choice < known board dictionary light → marks.words light choice ≡ true → puts board dictionary light position letter choice ≡ true → marks.held (slot_at board light position) letter ≤ choice
  pub held : (light position letter : ℕ) → IsPositionIn board light position → seed light ≡ false → marks.queued light ≡ false
      → marks.letters (cell_at board light position) letter ≡ true → IsHeld board dictionary marks light position letter

-- a settled net was adapted to the state after an edit: each light that is not a seed has the marks
-- of the matching light before
pub record IsCarried (before after : Board) (old new : Dictionary) (same : ℕ → Option ℕ) (settled start : Marks) (seed : ℕ → Bool) : Type 0 where
  pub lights : (light choice : ℕ) → start.words light choice ≡ true → light < length after.lights
  pub matched : (light : ℕ) → light < length after.lights → seed light ≡ false → (other : ℕ) × (same light ≡ Some other)
  -- the number of a word in the net still means the same word
  pub as_many : (light other : ℕ) → light < length after.lights → seed light ≡ false → same light ≡ Some other → known after new light ≡ known before old other
  pub choices : (light other choice : ℕ) → light < length after.lights → seed light ≡ false → same light ≡ Some other → settled.words other choice ≡ true → choice_at before old other choice ≡ choice_at after new light choice
  -- a light that loses a word is queued
  pub calm : (light choice : ℕ) → light < length after.lights → seed light ≡ false → start.queued light ≡ false → IsTrue (was before after old new same settled.words light choice) → IsTrue (is_base_at after new light choice)
  pub letters : (cell letter : ℕ) → start.letters cell letter ≡ true → may_stand after cell letter ≡ true
  pub held : (light position letter : ℕ) → IsPositionIn after light position → is_capital letter ≡ true → seed light ≡ false
      → start.held (slot_at after light position) letter ≡ settled.held (slot_at after light position) letter
  pub restart : (light position letter : ℕ) → IsPositionIn after light position → seed light ≡ false
      → start.restart (slot_at after light position) letter ≡ settled.restart (slot_at after light position) letter
  pub pending : (light position letter : ℕ) → IsPositionIn after light position → start.pending (slot_at after light position) letter ≡ false
  -- each held word has the letter that it is held for, at seeds too
  pub hits : IsHolding after new start
