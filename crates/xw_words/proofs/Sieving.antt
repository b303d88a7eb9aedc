-- Words that have one of several letters at a position.
use Rattle.std.proofs.Common.{◌≡◌, ℕ, ◌+◌, ◌-◌, ◌*◌, ◌<◌, ◌≤◌, Bool, true, false, ◌&&◌, ◌||◌, ltb, List, length, length-set, take, get_or, set, refl, sym, ap, ◌∙◌, subst, inl, inr, arith, ◌/◌, ◌%◌}
use Rattle.std.specs.Prelude.{Option, Some, None}
use Rattle.std.proofs.lemmas.Bool.{cases_lt, cases_eq, eq-eqb, ne_eqb, lt-ltb, le-ltb}
use Rattle.std.proofs.lemmas.List.{get_or-set_same, take-set}
use Rattle.std.proofs.lemmas.List.Folds.{list_any_more}
use Rattle.xw_letters.specs.LetterSet.{has}
use Rattle.xw_words.specs.Columns.{is_among, is_listed, letter_is}

-- whether there is a letter among the first ones of the alphabet, and the set has it
abbrev pub is_among_first : ℕ → ℕ → Option ℕ → Bool
is_among_first letters index None = false
is_among_first letters index (Some letter) = has letters letter && ltb letter (65 + index)

and_true : (a : Bool) → (a && true) ≡ a
and_true true = refl
and_true false = refl

or_false : (a : Bool) → (a || false) ≡ a
or_false true = refl
or_false false = refl

or_true : (a : Bool) → (a || true) ≡ true
or_true true = refl
or_true false = refl

pub among_next : (letters from index : ℕ) → from ≤ index → has letters (65 + index) ≡ true → ((other : ℕ) → from ≤ other → other < index → has letters (65 + other) ≡ false)
    → (o : Option ℕ) → (is_among_first letters from o || letter_is o (65 + index)) ≡ is_among_first letters (index + 1) o
among_next letters from index le stands first None = refl
among_next letters from index le stands first (Some letter) = elim (cases_lt letter (65 + from)) [
  | inl early ↦
      ap (λ b. (has letters letter && ltb letter (65 + from)) || b) (ne_eqb letter (65 + index) (λ e. omega arith))
      ∙ or_false (has letters letter && ltb letter (65 + from))
      ∙ ap (λ b. has letters letter && b) (lt-ltb letter (65 + from) early ∙ sym (lt-ltb letter (65 + (index + 1)) (omega arith)))
  | inr from_on ↦ elim (cases_lt letter (65 + index)) [
    | inl between ↦
        let is : 65 + (letter - 65) ≡ letter = omega arith in
        let lacks : has letters letter ≡ false = ap (has letters) (sym is) ∙ first (letter - 65) (omega arith) (omega arith) in
        ap (λ b. (has letters letter && ltb letter (65 + from)) || b) (ne_eqb letter (65 + index) (λ e. omega arith))
        ∙ or_false (has letters letter && ltb letter (65 + from))
        ∙ ap (λ b. b && ltb letter (65 + from)) lacks
        ∙ sym (ap (λ b. b && ltb letter (65 + (index + 1))) lacks)
    | inr on ↦ elim (cases_eq letter (65 + index)) [
      | inl here ↦
          ap (λ b. (has letters letter && ltb letter (65 + from)) || b) (eq-eqb letter (65 + index) here)
          ∙ or_true (has letters letter && ltb letter (65 + from))
          ∙ sym (ap (λ l. has letters l && ltb letter (65 + (index + 1))) here ∙ ap (λ b. b && ltb letter (65 + (index + 1))) stands ∙ lt-ltb letter (65 + (index + 1)) (omega arith))
      | inr past ↦
          ap (λ b. (has letters letter && ltb letter (65 + from)) || b) (ne_eqb letter (65 + index) past)
          ∙ or_false (has letters letter && ltb letter (65 + from))
          ∙ ap (λ b. has letters letter && b) (le-ltb letter (65 + from) from_on ∙ sym (le-ltb letter (65 + (index + 1)) (omega (arith, past))))
    ]
  ]
]

pub among_all : (letters from : ℕ) → ((other : ℕ) → from ≤ other → has letters (65 + other) ≡ false) → (o : Option ℕ) → is_among_first letters from o ≡ is_among letters o
among_all letters from none None = refl
among_all letters from none (Some letter) = elim (cases_lt letter (65 + from)) [
  | inl early ↦ ap (λ b. has letters letter && b) (lt-ltb letter (65 + from) early) ∙ and_true (has letters letter)
  | inr past ↦
      let is : 65 + (letter - 65) ≡ letter = omega arith in
      let lacks : has letters letter ≡ false = ap (has letters) (sym is) ∙ none (letter - 65) (omega arith) in
      ap (λ b. b && ltb letter (65 + from)) lacks ∙ sym lacks
]

-- ---- a list of letters

-- one more letter
pub listed_more : (list : List ℕ) (i : ℕ) (o : Option ℕ) → i < length list → is_listed (take (i + 1) list) o ≡ (is_listed (take i list) o || letter_is o (65 + get_or list i 0))
listed_more list i o lt = list_any_more (λ place. letter_is o (65 + place)) list i 0 lt

-- the letters so far, after the next one of the set is written
pub listed_next : (list : List ℕ) (count letters from index : ℕ) (o : Option ℕ) → count < length list → from ≤ index → has letters (65 + index) ≡ true
    → ((other : ℕ) → from ≤ other → other < index → has letters (65 + other) ≡ false) → is_listed (take count list) o ≡ is_among_first letters from o
    → is_listed (take (count + 1) (set list count index)) o ≡ is_among_first letters (index + 1) o
listed_next list count letters from index o lt le stands first before =
    listed_more (set list count index) count o (omega (arith, lt, length-set list count index))
    ∙ ap (λ l. is_listed l o || letter_is o (65 + get_or (set list count index) count 0)) (take-set list count index)
    ∙ ap (λ place. is_listed (take count list) o || letter_is o (65 + place)) (get_or-set_same list count index 0 lt)
    ∙ ap (λ b. b || letter_is o (65 + index)) before
    ∙ among_next letters from index le stands first o

-- ---- the indices of a block

pub in_block : (P : ℕ → Type 0) (at : ℕ) → ((chunk k : ℕ) → chunk < 8 → k < 64 → P (64 * (at + chunk) + k)) → (i : ℕ) → 64 * at ≤ i → i < 64 * at + 512 → P i
in_block P at each i low high =
    let is : 64 * (at + (i / 64 - at)) + i % 64 ≡ i = omega (arith, low) in
    subst P is (each (i / 64 - at) (i % 64) (omega (arith, high, low)) (omega arith))

pub in_chunk : (P : ℕ → Type 0) (at : ℕ) → ((k : ℕ) → k < 64 → P (64 * at + k)) → (i : ℕ) → 64 * at ≤ i → i < 64 * at + 64 → P i
in_chunk P at each i low high =
    let is : 64 * at + (i - 64 * at) ≡ i = omega (arith, low) in
    subst P is (each (i - 64 * at) (omega (arith, high, low)))

-- a clear bit stays clear
pub none_stays : (new old other : Bool) → new ≡ old → old ≡ false → new ≡ (old && other)
none_stays new old other same none = same ∙ none ∙ sym (ap (λ b. b && other) none)
