-- What a revival along a chain of lights does to a net.
use Rattle.std.specs.Prelude.{◌≡◌, ℕ, Bool, true, List, Option, IsTrue}
use Rattle.xw_words.specs.Dictionary.{Dictionary, Entry}
use Rattle.xw_feas.specs.Board.{Board, board_of, light_at}
use Rattle.xw_feas.specs.Choices.{CoversSupported, IsExact}
use Rattle.xw_feas.specs.Feasible.{may_stand}
use Rattle.xw_feas.specs.State.{State, Action}
use Rattle.xw_net.specs.declared.net.Net.{Net}
use Rattle.xw_net.specs.Revival.{IsMatching, IsRevived}
use Rattle.xw_net.specs.Region.{IsRegion}
use Rattle.xw_net.specs.Marks.{IsSetting, IsReady}
use Rattle.xw_net.specs.Nets.{marks_of, word_stands, letter_stands}
use Rattle.xw_net.specs.Brought.{IsBase, IsBrought, IsBegun, IsReadyBut}
use Rattle.xw_net.specs.Worklist.{is_marked}

module _ (board : Board) (old new : Net) where
  -- words and letters came back along the chain
  abbrev pub BringsBack : Type 0
  BringsBack = (dictionary : Dictionary) → IsBase board dictionary old.base.items → IsBrought board dictionary (marks_of old) (marks_of new) (is_marked new.chain.marks)

  -- if the chain starts in a state that `IsBegun` allows, the result is a revival
  abbrev pub RevivesChain : Type 0
  RevivesChain =
      (before : Board) (words words' : Dictionary) (same : ℕ → Option ℕ) (choices letters : ℕ → ℕ → Bool) → IsBase board words' old.base.items
      → IsBegun before board words words' same choices letters (word_stands old) (letter_stands old) (is_marked old.chain.marks)
      → IsRevived before board words words' same choices letters (word_stands new) (letter_stands new)

  -- if the net had exactly what was feasible before the edit, it has every supported family after the chain
  abbrev pub CoversFeasible : Type 0
  CoversFeasible =
      (before : Board) (words words' : Dictionary) (same : ℕ → Option ℕ) (choices letters : ℕ → ℕ → Bool) → IsBase board words' old.base.items
      → IsMatching before board same → IsExact before words choices letters
      → IsBegun before board words words' same choices letters (word_stands old) (letter_stands old) (is_marked old.chain.marks)
      → CoversSupported board words' (word_stands new) (letter_stands new)

  -- a net that is ready for stripping except at the seeds is ready everywhere after the revival
  abbrev pub ReadiesChain : Type 0
  ReadiesChain =
      (entries : ℕ → List Entry) (dictionary : Dictionary) → IsSetting board entries dictionary → IsBase board dictionary old.base.items
      → IsReadyBut board dictionary (marks_of old) (is_marked old.chain.marks) → CoversSupported board dictionary (word_stands new) (letter_stands new) → IsReady board dictionary (marks_of new)

  -- a chain that starts in the region of an edit stays in it
  abbrev pub StaysInRegion : Type 0
  StaysInRegion =
      (before after : State) (action : Action) (member : List ℕ → Bool) (words letters : ℕ → ℕ → Bool) → board ≡ board_of after.grid → IsRegion before after action member
      → IsExact (board_of before.grid) before.words words letters
      → ((cell letter : ℕ) → IsTrue (may_stand board cell letter) → IsTrue (letters cell letter) → IsTrue (letter_stands old cell letter))
      → ((light : ℕ) → is_marked old.chain.marks light ≡ true → IsTrue (member (light_at board light)))
      → (light : ℕ) → is_marked new.chain.marks light ≡ true → IsTrue (member (light_at board light))
