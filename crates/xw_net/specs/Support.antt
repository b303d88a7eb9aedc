-- Words of a row that support a letter.
use Rattle.std.specs.Prelude.{◌≡◌, ℕ, ◌+◌, ◌-◌, ◌*◌, ◌/◌, ◌<◌, ◌≤◌, Bool, true, false, ◌&&◌, not, nat_lt, ◌==◌, List, length, slice_index, slice_index_or, slice_set, if◌then◌else◌}
use Rattle.xw_words.specs.Columns.{has_letter}
use Rattle.xw_words.specs.Dictionary.{Entry}
use Rattle.xw_letters.specs.LetterSet.{has}
use Rattle.xw_net.specs.Region.{chunks_of}
use Rattle.xw_net.specs.Due.{sum_letters}
use Rattle.xw_feas.specs.Flags.{set_has}

-- whether the word is in the row and has the letter at the position
unfoldable pub supports : List Bool → List Entry → ℕ → ℕ → ℕ → Bool
supports row words position letter word = slice_index_or row word false && has_letter words position letter word

-- the number of letters in a set
unfoldable pub letter_count : ℕ → ℕ
letter_count set = sum_letters (λ letter. if has set letter then 1 else 0)

-- words are removed from a row: every word that has a pending letter at the position, and none that
-- has one of the letters left
pub record Strikes (words : List Entry) (position pending alive : ℕ) (old new : ℕ → Bool) : Type 0 where
  pub fewer : (word : ℕ) → new word ≡ true → old word ≡ true
  pub struck : (word letter : ℕ) → has pending letter ≡ true → has_letter words position letter word ≡ true → new word ≡ false
  pub kept : (word letter : ℕ) → has alive letter ≡ true → has_letter words position letter word ≡ true → old word ≡ true → new word ≡ true

-- no letter is in both sets
abbrev pub AreApart : ℕ → ℕ → Type 0
AreApart pending alive = (letter : ℕ) → has pending letter ≡ true → has alive letter ≡ false

-- words are removed from a row in this way, if no letter is in both sets
abbrev pub StrikesRow : List Entry → ℕ → ℕ → ℕ → List Bool → List Bool → Type 0
StrikesRow words position pending alive old new = AreApart pending alive → Strikes words position pending alive (λ word. slice_index_or old word false) (λ word. slice_index_or new word false)

-- no word of the row from one index on, and below another, supports the letter
abbrev pub NoneSupports : List Bool → List Entry → ℕ → ℕ → ℕ → ℕ → Type 0
NoneSupports row words position letter from end = (other : ℕ) → from ≤ other → other < end → supports row words position letter other ≡ false

-- the held supports by slot and letter, and by slot the letters whose search has to restart at the
-- first word
pub record Held : Type 0 where
  pub indices : List ℕ
  pub restart : List ℕ

-- the supports that two arrays hold
abbrev pub holds : List ℕ → List ℕ → Held
holds indices restart = record { indices = indices; restart = restart }

-- the word held for a letter at a slot
abbrev pub index_for : Held → ℕ → ℕ → ℕ
index_for held slot letter = slice_index held.indices (26 * slot + (letter - 65))

-- whether a known word is held, and no word before it can support the letter
abbrev pub is_read_in : Held → ℕ → ℕ → ℕ → Bool
is_read_in held slot letter words = nat_lt (index_for held slot letter) words && not (set_has held.restart slot letter)

-- the chunk where the next search starts
abbrev pub search_from : Held → ℕ → ℕ → ℕ → ℕ
search_from held slot letter words = if is_read_in held slot letter words then index_for held slot letter / 64 else 0

-- the outcomes of a search for a support of a letter
pub data Finds (row : List Bool) (words : List Entry) (position slot letter : ℕ) (old new : Held) (found : Bool) (spent : ℕ) : Type 0 where
  -- the held word is still in the row
  stands : found ≡ true → index_for old slot letter < length row → slice_index_or row (index_for old slot letter) false ≡ true
      → new ≡ old → spent ≡ 0 → Finds row words position slot letter old new found spent
  -- another word supports the letter; it is the first one from the start of the search on
  moves : (word : ℕ) → found ≡ true
      → (index_for old slot letter < length row → slice_index_or row (index_for old slot letter) false ≡ false)
      → 64 * search_from old slot letter (length row) ≤ word → supports row words position letter word ≡ true
      → ((other : ℕ) → 64 * search_from old slot letter (length row) ≤ other → other < word → supports row words position letter other ≡ false)
      → new.indices ≡ slice_set old.indices (26 * slot + (letter - 65)) word
      → length new.restart ≡ length old.restart
      → ((other_slot other : ℕ) → set_has new.restart other_slot other ≡ (set_has old.restart other_slot other && not ((other_slot == slot) && (other == letter))))
      → spent + search_from old slot letter (length row) ≤ word / 64 + 1 → Finds row words position slot letter old new found spent
  -- no word does
  nowhere : found ≡ false
      → (index_for old slot letter < length row → slice_index_or row (index_for old slot letter) false ≡ false)
      → ((other : ℕ) → 64 * search_from old slot letter (length row) ≤ other → supports row words position letter other ≡ false)
      → new ≡ old
      → spent ≤ chunks_of (length row) - search_from old slot letter (length row) → Finds row words position slot letter old new found spent
