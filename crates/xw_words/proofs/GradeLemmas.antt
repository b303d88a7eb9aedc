-- Lemmas about the grade of a line.
use Rattle.std.proofs.Common.{◌≡◌, ℕ, zero, suc, ◌+◌, ◌<◌, ◌≤◌, true, false, cond, List, [], ◌∷◌, map, length, get_or, drop, refl, ap, sym, ◌∙◌, arith}
use Rattle.std.specs.Prelude.{None, filter, position, unwrap_or}
use Rattle.std.specs.List.{list_any}
use Rattle.std.proofs.lemmas.Bool.Decides.{nat_tests}
use Rattle.std.proofs.lemmas.List.{drop_all, length-map}
use Rattle.xw_letters.specs.Letter.{is_letter, folded}
use Rattle.xw_text.proofs.Position.{position_is_none}
use Rattle.xw_words.specs.Dictionary.{capped}
use Rattle.xw_words.specs.WordList.{left_of, is_high, is_semicolon, before_semicolon, after_semicolon, trimmed_start, trimmed_end, score_in, score_of}

letters_few : (line : List ℕ) → length (filter is_letter line) ≤ length line
letters_few [] = omega arith
letters_few (x ∷ xs) =
    elim (is_letter x) as (λ b. length (cond b (x ∷ filter is_letter xs) (filter is_letter xs)) ≤ suc (length xs)) [
      | true ↦ omega (arith, letters_few xs)
      | false ↦ omega (arith, letters_few xs)
    ]

-- if a filter drops nothing, the first byte is a letter, and it drops nothing of the rest
first_letter : (x : ℕ) (xs : List ℕ) → length (filter is_letter (x ∷ xs)) ≡ length (x ∷ xs) → (is_letter x ≡ true) × (length (filter is_letter xs) ≡ length xs)
first_letter x xs e =
    elim (is_letter x) as (λ b. is_letter x ≡ b → length (cond b (x ∷ filter is_letter xs) (filter is_letter xs)) ≡ suc (length xs) → (is_letter x ≡ true) × (length (filter is_letter xs) ≡ length xs)) [
      | true ↦ λ is all. (is, omega arith)
      | false ↦ λ is all. absurd (omega (arith, letters_few xs))
    ] refl e

all_letters : (line : List ℕ) → length (filter is_letter line) ≡ length line → (k : ℕ) → k < length line → is_letter (get_or line k 0) ≡ true
all_letters [] e k lt = absurd (omega arith)
all_letters (x ∷ xs) e zero lt = (first_letter x xs e).0
all_letters (x ∷ xs) e (suc k) lt = all_letters xs (first_letter x xs e).1 k (omega arith)

no_semicolon : (byte : ℕ) → is_letter byte ≡ true → is_semicolon byte ≡ false
no_semicolon byte h = grind (arith, nat_tests)

-- a line without a semicolon has the usual score
usual_alone : (line : List ℕ) → position is_semicolon line ≡ None → score_of line ≡ 50
usual_alone line none =
    let nothing : after_semicolon line ≡ [] = ap (λ at. drop (unwrap_or at (length line) + 1) line) none ∙ drop_all (length line + 1) line (omega arith) in
    ap (λ rest. score_in (trimmed_end (trimmed_start (before_semicolon rest)))) nothing

usual_of_nothing : (line : List ℕ) → length line ≡ 0 → capped (score_of line) ≡ 50
usual_of_nothing [] e = refl
usual_of_nothing (x ∷ xs) e = absurd (omega arith)

-- a line of letters alone has the usual grade
pub usual_of_letters : (line : List ℕ) → length (left_of line) ≡ length line → capped (score_of line) ≡ 50
usual_of_letters line e =
    elim (list_any is_high line) as (λ b. length (map folded (cond b [] (filter is_letter line))) ≡ length line → capped (score_of line) ≡ 50) [
      | true ↦ λ all. usual_of_nothing line (sym all)
      | false ↦ λ all.
          let whole : length (filter is_letter line) ≡ length line = sym (length-map (filter is_letter line) folded) ∙ all in
          ap capped (usual_alone line (position_is_none is_semicolon line 0 (λ k lt. no_semicolon (get_or line k 0) (all_letters line whole k lt))))
    ] e
