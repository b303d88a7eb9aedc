-- The greatest supported family.
use Rattle.std.specs.Prelude.{ℕ, Bool, List, IsTrue, ◌↔◌}
use Rattle.xw_words.specs.Dictionary.{Dictionary}
use Rattle.xw_feas.specs.Board.{Board}
use Rattle.xw_feas.specs.Choices.{CoversSupported, IsWithinBase, SupportsItself, IsExact}
use Rattle.xw_feas.specs.Feasible.{Family, IsSupported, IsFeasibleWord, IsFeasibleLetter}

-- every word and letter of one family is in the other
pub record IsWithin (one other : Family) : Type 0 where
  pub words : (light : ℕ) (word : List ℕ) → IsTrue (one.words light word) → IsTrue (other.words light word)
  pub letters : (cell letter : ℕ) → IsTrue (one.letters cell letter) → IsTrue (other.letters cell letter)

-- the family is supported, and contains every supported family
pub record IsGreatest (board : Board) (dictionary : Dictionary) (family : Family) : Type 0 where
  pub supported : IsSupported board dictionary family
  pub covers : (other : Family) → IsSupported board dictionary other → IsWithin other family

-- the family has exactly the feasible words and letters
pub record IsFeasibleFamily (board : Board) (dictionary : Dictionary) (family : Family) : Type 0 where
  pub words : (light : ℕ) (word : List ℕ) → IsTrue (family.words light word) ↔ IsFeasibleWord board dictionary light word
  pub letters : (cell letter : ℕ) → IsTrue (family.letters cell letter) ↔ IsFeasibleLetter board dictionary cell letter

-- the greatest family is the feasible one
abbrev pub GreatestIsFeasible : Type 0
GreatestIsFeasible = (board : Board) (dictionary : Dictionary) (family : Family) → IsGreatest board dictionary family → IsFeasibleFamily board dictionary family

-- flags that are set only for base words and allowed letters, cover every supported family and support one another are
-- set for exactly the feasible words and letters
abbrev pub StandingIsFeasible : Type 0
StandingIsFeasible =
    (board : Board) (dictionary : Dictionary) (word_stands letter_stands : ℕ → ℕ → Bool)
    → CoversSupported board dictionary word_stands letter_stands
    → IsWithinBase board dictionary word_stands letter_stands
    → SupportsItself board dictionary word_stands letter_stands
    → IsExact board dictionary word_stands letter_stands

-- every board and dictionary have such a family
abbrev pub FeasibleFamilyExists : Type 0
FeasibleFamilyExists = (board : Board) (dictionary : Dictionary) → (family : Family) × IsFeasibleFamily board dictionary family
