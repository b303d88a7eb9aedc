-- The computed feasible letters are those of the definition of feasibility.
use Rattle.std.proofs.Common.{◌≡◌, ℕ, true, ◌∙◌, length}
use Rattle.std.specs.List.{list_all}
use Rattle.std.proofs.lemmas.Bool.{and_parts, and_from}
use Rattle.std.proofs.Math.Logic.{∥∥₁_elim}
use mathlib.Core.Bool.{Bool-set}
use Rattle.xw_letters.specs.Letter.{alphabet}
use Rattle.xw_feas.specs.Feasible.{Family, IsSupported, Answers, AreAnswers, answers_letter}
use Rattle.xw_feas.specs.Changes.{letters_of}
use Rattle.xw_search.specs.Position.{Position}
use Rattle.xw_search.specs.FeasibleWords.{Pair, leaves_letter, is_kept, base_pairs}
use Rattle.xw_search.specs.FeasibleLetters.{is_family_leaving, is_feasible_letter, feasible_letters}
use Rattle.xw_search.proofs.BelowLemmas.{any_part-from, any_part-gives}
use Rattle.xw_search.proofs.FeasibleWordsLemmas.{family_of, family_is_supported, family_is_kept, letter_of_family, same_tests, filter-same}

pub is_feasible_letter-gives : (state : Position) (cell letter : ℕ) → is_feasible_letter state cell letter ≡ true → (family : Family) × IsSupported state.board state.words family × (family.letters cell letter ≡ true)
unfolding is_feasible_letter
is_feasible_letter-gives state cell letter h =
    let found = any_part-gives (is_family_leaving state cell letter) (base_pairs state.board state.words (length state.board.lights)) h in
    let parts = and_parts (list_all (is_kept state.board state.words found.0) found.0) (leaves_letter state.board found.0 cell letter) found.1 in
    (family_of state.board found.0, family_is_supported state.board state.words found.0 parts.0, parts.1)

pub is_feasible_letter-from : (state : Position) (cell letter : ℕ) (family : Family) → IsSupported state.board state.words family → family.letters cell letter ≡ true → is_feasible_letter state cell letter ≡ true
unfolding is_feasible_letter
is_feasible_letter-from state cell letter family supported h =
    any_part-from (is_family_leaving state cell letter) (λ (pair : Pair). family.words pair.0 pair.1) (base_pairs state.board state.words (length state.board.lights))
    (and_from _ _ (family_is_kept state.board state.words family supported) (letter_of_family state.board state.words family supported cell letter h))

pub answers_letter-is : (state : Position) (answers : Answers) → AreAnswers state.board state.words answers → (cell letter : ℕ) → answers_letter answers cell letter ≡ is_feasible_letter state cell letter
answers_letter-is state answers exact cell letter =
    same_tests _ _
    (λ h. ∥∥₁_elim ((exact.letters cell letter).0 h) (Bool-set _ _) (λ feasible. is_feasible_letter-from state cell letter feasible.0 feasible.1 feasible.2))
    (λ h. (exact.letters cell letter).1 ∣ is_feasible_letter-gives state cell letter h ∣₁)

-- the letters that an engine answers are the computed ones
pub answered_letters : (state : Position) (answers : Answers) → AreAnswers state.board state.words answers → (cell : ℕ) → letters_of answers cell ≡ feasible_letters state cell
unfolding feasible_letters
answered_letters state answers exact cell = exact.letters_in_order cell ∙ filter-same (answers_letter answers cell) (is_feasible_letter state cell) (answers_letter-is state answers exact cell) alphabet
