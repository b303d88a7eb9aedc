-- The words that a search remembers for letters, and what it finds by them.
use Rattle.std.specs.Prelude.{◌≡◌, ◌⊎◌, ℕ, ◌+◌, ◌-◌, ◌*◌, ◌^◌, ◌<◌, Bool, true, List, length, replicate, slice_index}
use Rattle.xw_letters.specs.LetterSet.{has}
use Rattle.xw_words.specs.Dictionary.{Entry}
use Rattle.xw_words.specs.Columns.{has_letter}
use Rattle.xw_feas.specs.Board.{Board, light_at}
use Rattle.xw_net.specs.Marks.{IsPositionIn, slot_at}
use Rattle.xw_net.specs.Support.{supports}

-- each known word that is remembered for a letter at a slot, which is this position of a light, has the letter there
abbrev pub IsSeenAt : List Entry → ℕ → ℕ → List ℕ → Type 0
IsSeenAt words position slot seen = (k : ℕ) → k < 26 → slice_index seen (26 * slot + k) < length words → has_letter words position (65 + k) (slice_index seen (26 * slot + k)) ≡ true

-- a word is remembered for each slot and letter, or none
pub record AreSeen (board : Board) (entries : ℕ → List Entry) (seen : List ℕ) : Type 0 where
  pub long : length seen ≡ 52 * length board.open_cells
  pub right : (light position : ℕ) → IsPositionIn board light position → IsSeenAt (entries (length (light_at board light))) position (slot_at board light position) seen

-- the words of before are remembered still, or none, in a table for so many cells
abbrev pub AreKeptOrNone : ℕ → List ℕ → List ℕ → Type 0
AreKeptOrNone cells old new = (new ≡ old) ⊎ (new ≡ replicate (52 * cells) (2 ^ 32 - 1))

-- a word of the row has the letter at the position
abbrev pub HasWord : List Bool → List Entry → ℕ → ℕ → Type 0
HasWord bits words position letter = (word : ℕ) × (supports bits words position letter word ≡ true)

-- of these letters exactly those were found that a word of the row has at the position
pub record AreFound (bits : List Bool) (words : List Entry) (position alive found : ℕ) : Type 0 where
  pub some_has : (letter : ℕ) → has found letter ≡ true → HasWord bits words position letter
  pub all_of : (letter word : ℕ) → has alive letter ≡ true → supports bits words position letter word ≡ true → has found letter ≡ true
