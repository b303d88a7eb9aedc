-- Lemmas on command words.
use Rattle.std.proofs.Common.{◌≡◌, ℕ, List, [], ◌∷◌, map, Some, None, refl, ap, ◌∙◌, inl, inr}
use Rattle.std.specs.Prelude.{bytes_eq}
use Rattle.std.proofs.lemmas.Bool.{cases_Bool}
use Rattle.std.proofs.lemmas.Slice.Eq.{bytes_eq-Decides}
use Rattle.xw_commands.specs.Names.{by_name}
use Rattle.xw_commands.specs.Reading.{lookup}

-- a value that is found by a word has this word
pub own_word : {A : Type 0} (name : A → List ℕ) (values : List A) (word : List ℕ) (a : A) → lookup (by_name name values) word ≡ Some a → word ≡ name a
own_word name [] word a found = cc
own_word name (value ∷ values) word a found =
    elim (cases_Bool (bytes_eq word (name value))) [
      | inl same ↦
          let is : Some value ≡ Some a = rw same at found in
          let value_is : value ≡ a = cc in
          (bytes_eq-Decides word (name value)).0 same ∙ ap name value_is
      | inr other ↦ own_word name values word a (rw other at found)
    ]

-- two tables with the same words lack the same words
pub no_row : {A B : Type 0} (name : A → List ℕ) (values : List A) (table : List (List ℕ × B)) (word : List ℕ) → map (λ row. row.0) table ≡ map name values → lookup (by_name name values) word ≡ None
    → lookup table word ≡ None
no_row name [] [] word same none = refl
no_row name [] (row ∷ rows) word same none = cc
no_row name (value ∷ values) [] word same none = cc
no_row {A} name (value ∷ values) (row ∷ rows) word same none =
    let first : row.0 ≡ name value = cc in
    let others : map (λ row. row.0) rows ≡ map name values = cc in
    elim (cases_Bool (bytes_eq word (name value))) [
      | inl is ↦ let bad : Some value ≡ None = rw is at none in cc
      | inr other ↦ rw (first, other) (no_row name values rows word others (rw other at none))
    ]

-- two tables with the same words have the same words
pub same_row : {A B : Type 0} (name : A → List ℕ) (values : List A) (table : List (List ℕ × B)) (word : List ℕ) (a : A) → map (λ row. row.0) table ≡ map name values → lookup (by_name name values) word ≡ Some a
    → (b : B) × (lookup table word ≡ Some b)
same_row name [] table word a same found = cc
same_row name (value ∷ values) [] word a same found = cc
same_row {A} name (value ∷ values) (row ∷ rows) word a same found =
    let first : row.0 ≡ name value = cc in
    let others : map (λ row. row.0) rows ≡ map name values = cc in
    elim (cases_Bool (bytes_eq word (name value))) [
      | inl is ↦ (row.1, rw (first, is) refl)
      | inr other ↦ let rest = same_row name values rows word a others (rw other at found) in (rest.0, rw (first, other) rest.1)
    ]
