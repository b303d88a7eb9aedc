-- The letters that the words of a row have.
use Rattle.std.specs.Prelude.{◌≡◌, ℕ, true, Bool, List}
use Rattle.xw_words.specs.Dictionary.{Entry}
use Rattle.xw_feas.specs.Flags.{set_has}
use Rattle.xw_net.specs.Support.{supports}

-- a set for each position: exactly the letters that a word of the row has there
pub record AreLettersOf (row : List Bool) (words : List Entry) (sets : List ℕ) : Type 0 where
  pub some_has : (position letter : ℕ) → set_has sets position letter ≡ true → (word : ℕ) × (supports row words position letter word ≡ true)
  pub all_of : (position letter word : ℕ) → supports row words position letter word ≡ true → set_has sets position letter ≡ true
