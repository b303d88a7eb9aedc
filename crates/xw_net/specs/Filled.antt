-- The states of a net: to be computed anew, ready for stripping, and settled.
use Rattle.std.specs.Prelude.{◌≡◌, ℕ, ◌<◌, ◌≤◌, true, false, List, [], length, All}
use Rattle.xw_bits.specs.Bits.{RowOfBits}
use Rattle.xw_letters.specs.Letter.{is_capital}
use Rattle.xw_words.specs.Dictionary.{Dictionary, Entry, known_words, most_words}
use Rattle.xw_feas.specs.Board.{Board, light_at}
use Rattle.xw_feas.specs.Choices.{IsExact}
use Rattle.xw_net.specs.Marks.{IsPositionIn, slot_at, IsHolding, IsReady, IsSettledNet}
use Rattle.xw_net.specs.Room.{row_at}
use Rattle.xw_net.specs.Nets.{marks_of, word_stands, letter_stands, held_in, pending_in, queued_in, IsShaped, IsChained, HasBits}
use Rattle.xw_net.specs.Worklist.{is_marked}
use Rattle.xw_net.specs.Brought.{HasBase, IsBase}
use Rattle.xw_net.specs.declared.net.Net.{Net}

-- the known words that are read for a light's length have that length
abbrev pub AreLong : Board → (ℕ → List Entry) → Type 0
AreLong board entries = (light : ℕ) → light < length board.lights → All (λ (word : Entry). length word.word ≡ length (light_at board light)) (entries (length (light_at board light)))

-- each light's row has room for a bit for each known word
abbrev pub HasRowRoom : Board → (ℕ → List Entry) → List RowOfBits → Type 0
HasRowRoom board entries rows = (light : ℕ) → light < length board.lights → length (entries (length (light_at board light))) ≤ (row_at rows light).room

-- the arrays have the right sizes, with a bit for each known word
pub record IsWholeNet (board : Board) (entries : ℕ → List Entry) (net : Net) : Type 0 where
  pub shaped : IsShaped board net
  pub chained : IsChained board net
  pub bits : HasBits board entries net
  pub base : HasBase board entries net.base.items
  pub room : HasRowRoom board entries net.rows.items
  pub base_room : HasRowRoom board entries net.base.items

-- no light is queued, and no light is marked
pub record IsQuiet (net : Net) : Type 0 where
  pub queue : net.queue.lights ≡ []
  pub queued : (light : ℕ) → queued_in net light ≡ false
  pub taken : net.chain.lights ≡ []
  pub marked : (light : ℕ) → is_marked net.chain.marks light ≡ false

-- a net whose words and letters can be computed anew: it has no words past the lights, no supports are held, and
-- nothing is pending
pub record IsFresh (board : Board) (entries : ℕ → List Entry) (net : Net) : Type 0 where
  pub whole : IsWholeNet board entries net
  pub past : (light choice : ℕ) → length board.lights ≤ light → word_stands net light choice ≡ false
  pub held : (light position letter : ℕ) → IsPositionIn board light position → is_capital letter ≡ true → most_words ≤ held_in net (slot_at board light position) letter
  pub pending : (slot letter : ℕ) → pending_in net slot letter ≡ false
  pub quiet : IsQuiet net

-- the net has all that is feasible, and perhaps more: it is ready for stripping
pub record IsUnstripped (board : Board) (dictionary : Dictionary) (net : Net) : Type 0 where
  pub whole : IsWholeNet board (known_words dictionary) net
  pub is_base : IsBase board dictionary net.base.items
  pub ready : IsReady board dictionary (marks_of net)
  pub holding : IsHolding board dictionary (marks_of net)
  pub pending : (slot letter : ℕ) → pending_in net slot letter ≡ false
  pub taken : net.chain.lights ≡ []
  pub marked : (light : ℕ) → is_marked net.chain.marks light ≡ false

-- the net has exactly what is feasible, and is ready for the next edit
pub record IsFilled (board : Board) (dictionary : Dictionary) (net : Net) : Type 0 where
  pub whole : IsWholeNet board (known_words dictionary) net
  pub is_base : IsBase board dictionary net.base.items
  pub settled : IsSettledNet board dictionary (marks_of net)
  pub holding : IsHolding board dictionary (marks_of net)
  pub exact : IsExact board dictionary (word_stands net) (letter_stands net)
  pub pending : (slot letter : ℕ) → pending_in net slot letter ≡ false
  pub quiet : IsQuiet net
