-- What stands while words and letters without support are removed: flags for the words of lights, and sets of letters
-- for cells.
use Rattle.std.specs.Prelude.{ℕ, Bool, false, ◌&&◌, ◌==◌, ◌↔◌, List, [], IsTrue, slice_index, slice_index_or}
use Rattle.xw_words.specs.Dictionary.{Dictionary}
use Rattle.xw_feas.specs.AnswersOf.{answers_of}
use Rattle.xw_feas.specs.Board.{Board}
use Rattle.xw_feas.specs.Choices.{choices, choice_at, HasLetters}
use Rattle.xw_feas.specs.Feasible.{AreAnswers}
use Rattle.xw_feas.specs.Flags.{flag_at, set_has}
use Rattle.xw_feas.specs.Single.{AreAnswers-prop}

-- the words and letters that stand are the answers
abbrev pub AreAnswered : Board → Dictionary → List (List Bool) → List ℕ → Type 0
AreAnswered board dictionary words letters = AreAnswers board dictionary (answers_of board dictionary words letters)

pub AreAnswered-prop : (board : Board) (dictionary : Dictionary) (words : List (List Bool)) (letters : List ℕ) → IsProp (AreAnswered board dictionary words letters)
AreAnswered-prop board dictionary words letters = AreAnswers-prop board dictionary (answers_of board dictionary words letters)

-- whether a word of a light, by its index, stands and has the letter at a position
abbrev pub stands_with : Board → Dictionary → List (List Bool) → ℕ → ℕ → ℕ → ℕ → Bool
stands_with board dictionary words light choice position letter = flag_at words light choice && (slice_index (choice_at board dictionary light choice) position == letter)

-- the words of a light that have a flag are those that had one and whose letters all stand
abbrev pub AreStripped : Board → Dictionary → List ℕ → List ℕ → List Bool → List Bool → Type 0
AreStripped board dictionary cells letters old new =
    (choice : ℕ) → IsTrue (slice_index_or new choice false) ↔ (IsTrue (slice_index_or old choice false) × HasLetters (set_has letters) cells (slice_index_or (choices board dictionary cells) choice []))
