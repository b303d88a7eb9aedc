-- Lemmas on the letters of a cell, and on the cell to fill next.
use Rattle.std.proofs.Common.{◌≡◌, ℕ, ◌+◌, ◌-◌, ◌<◌, true, false, ◌==◌, Option, Some, None, refl, sym, ◌∙◌, ap, subst, arith, IfSome, IfNone, is_some}
use Rattle.std.specs.List.{list_any}
use Rattle.std.proofs.lemmas.Bool.{and_parts, true≢false}
use Rattle.xw_letters.specs.Letter.{is_capital}
use Rattle.xw_letters.specs.LetterSet.{has, letters_in}
use Rattle.xw_letters.proofs.LetterSetLemmas.{capital_is_letter, one_of_letters}
use Rattle.xw_feas.specs.Board.{board_of}
use Rattle.xw_feas.specs.Changes.{letters_of}
use Rattle.xw_feas.specs.Feasible.{Answers, AreAnswers}
use Rattle.xw_feas.specs.State.{State}
use Rattle.xw_search.specs.Position.{position_of}
use Rattle.xw_search.specs.FeasibleLetters.{is_feasible_letter}
use Rattle.xw_search.proofs.FeasibleLettersLemmas.{answers_letter-is}

-- ---- the feasible letters of a cell

pub letters_are : (state : State) (answers : Answers) (cell set : ℕ) → AreAnswers (board_of state.grid) state.words answers → letters_of answers cell ≡ letters_in set
    → (letter : ℕ) → has set letter ≡ is_feasible_letter (position_of state) cell letter
letters_are state answers cell set exact same letter =
    sym (one_of_letters set letter)
    ∙ ap (list_any (λ other. letter == other)) (sym same)
    ∙ answers_letter-is (position_of state) answers exact cell letter

-- ---- letters by their index in the alphabet

-- a property of the letters of a set, shown for each index in the alphabet
pub letters_by_number : (P : ℕ → Type 0) (set : ℕ) → ((number : ℕ) → number < 26 → has set (65 + number) ≡ true → P (65 + number)) → (letter : ℕ) → has set letter ≡ true → P letter
letters_by_number P set h letter has_it =
    let at = capital_is_letter letter (and_parts (is_capital letter) _ has_it).0 in
    let is : 65 + (letter - 65) ≡ letter = omega (arith, at.0) in
    subst P is (h (letter - 65) (omega (arith, at.0, at.1)) (ap (has set) is ∙ has_it))

-- ---- what is known of the best so far

-- a property of each value that the option can have
pub if_some : (P : ℕ → Type 0) (best : Option ℕ) → ((x : ℕ) → best ≡ Some x → P x) → IfSome best P
if_some P None h = tt
if_some P (Some x) h = h x refl

-- a fact that holds if there is no value
pub if_none : (P : Type 0) (best : Option ℕ) → (best ≡ None → P) → IfNone best P
if_none P None h = h refl
if_none P (Some x) h = tt

-- equal options hold equal values
pub same_value : {x y : ℕ} → Some x ≡ Some y → x ≡ y
same_value e = cc

-- an option without a value
pub is_empty : (o : Option ℕ) → is_some o ≡ false → o ≡ None
is_empty None h = refl
is_empty (Some x) h = absurd (true≢false h)
