-- Where a search goes on, and what it changes.
use Rattle.std.proofs.Common.{◌≡◌, ◌≢◌, ℕ, ◌/◌, ◌<◌, ◌≤◌, Bool, true, false, not, ◌&&◌, ◌||◌, cond, eqb, ltb, List, get_or, set, length, refl, sym, ap, ◌∙◌, inl, inr}
use Rattle.std.proofs.lemmas.Bool.{cases_Bool, cases_lt, cases_eq, lt-ltb, le-ltb, eq-eqb, ne_eqb}
use Rattle.std.proofs.lemmas.List.{get_or-set_same, get_or-set_other}
use Rattle.xw_letters.specs.LetterSet.{has}
use Rattle.xw_letters.proofs.LetterSetLemmas.{has-none}
use Rattle.xw_feas.specs.Flags.{set_has}
use Rattle.xw_net.specs.Support.{Held, index_for, search_from}

pub search_is : (held : Held) (slot letter words from : ℕ) → (index_for held slot letter < words → set_has held.restart slot letter ≡ false → from ≡ index_for held slot letter / 64)
    → (words ≤ index_for held slot letter → from ≡ 0) → (set_has held.restart slot letter ≡ true → from ≡ 0) → search_from held slot letter words ≡ from
search_is held slot letter words from known past start =
    elim (cases_Bool (set_has held.restart slot letter)) [
      | inl again ↦ ap (λ b. cond (ltb (index_for held slot letter) words && not b) (index_for held slot letter / 64) 0) again ∙ first (ltb (index_for held slot letter) words) ∙ sym (start again)
      | inr never ↦
          ap (λ b. cond (ltb (index_for held slot letter) words && not b) (index_for held slot letter / 64) 0) never
          ∙ elim (cases_lt (index_for held slot letter) words) [
            | inl lt ↦ ap (λ b. cond (b && true) (index_for held slot letter / 64) 0) (lt-ltb (index_for held slot letter) words lt) ∙ sym (known lt never)
            | inr le ↦ ap (λ b. cond (b && true) (index_for held slot letter / 64) 0) (le-ltb (index_for held slot letter) words le) ∙ sym (past le)
          ]
    ] where
      first : (b : Bool) → cond (b && false) (index_for held slot letter / 64) 0 ≡ 0
      first true = refl
      first false = refl

-- the set at one slot changes
pub set_has-set : (sets : List ℕ) (slot new : ℕ) (change : ℕ → Bool → Bool) → slot < length sets → ((other : ℕ) → has new other ≡ change other (set_has sets slot other)) → (at other : ℕ)
    → set_has (set sets slot new) at other ≡ cond (eqb at slot) (change other (set_has sets at other)) (set_has sets at other)
set_has-set sets slot new change within each at other =
    elim (cases_eq at slot) [
      | inl e ↦
          ap (λ s. has (get_or (set sets slot new) s 0) other) e ∙ ap (λ s. has s other) (get_or-set_same sets slot new 0 within) ∙ each other
          ∙ ap (λ s. change other (set_has sets s other)) (sym e)
          ∙ sym (ap (λ b. cond b (change other (set_has sets at other)) (set_has sets at other)) (eq-eqb at slot e))
      | inr n ↦
          ap (λ s. has s other) (get_or-set_other sets slot at new 0 n)
          ∙ sym (ap (λ b. cond b (change other (set_has sets at other)) (set_has sets at other)) (ne_eqb at slot n))
    ]

-- the set at a slot loses a letter
pub without_letter : (sets : List ℕ) (slot new letter : ℕ) → slot < length sets → ((other : ℕ) → has new other ≡ (set_has sets slot other && not (eqb other letter))) → (at other : ℕ)
    → set_has (set sets slot new) at other ≡ (set_has sets at other && not (eqb at slot && eqb other letter))
without_letter sets slot new letter within each at other =
    set_has-set sets slot new (λ o b. b && not (eqb o letter)) within each at other ∙ parts (eqb at slot) (set_has sets at other) where
      parts : (here stood : Bool) → cond here (stood && not (eqb other letter)) stood ≡ (stood && not (here && eqb other letter))
      parts true stood = refl
      parts false true = refl
      parts false false = refl

-- the set at a slot is emptied
pub emptied : (sets : List ℕ) (slot empty : ℕ) → slot < length sets → empty ≡ 0 → (at b : ℕ) → (at ≢ slot → set_has sets at b ≡ false) → set_has (set sets slot empty) at b ≡ false
emptied sets slot empty within none at b gone =
    elim (cases_eq at slot) [
      | inl e ↦ ap (λ s. has (get_or (set sets slot empty) s 0) b) e ∙ ap (λ s. has s b) (get_or-set_same sets slot empty 0 within ∙ none) ∙ has-none b
      | inr n ↦ ap (λ s. has s b) (get_or-set_other sets slot at empty 0 n) ∙ gone n
    ]

-- the set at a slot loses the letters of another
pub without_letters : (sets : List ℕ) (slot new gone : ℕ) → slot < length sets → ((other : ℕ) → has new other ≡ (set_has sets slot other && not (has gone other))) → (at other : ℕ)
    → set_has (set sets slot new) at other ≡ (set_has sets at other && not (eqb at slot && has gone other))
without_letters sets slot new gone within each at other =
    set_has-set sets slot new (λ o b. b && not (has gone o)) within each at other ∙ parts (eqb at slot) (set_has sets at other) where
      parts : (here stood : Bool) → cond here (stood && not (has gone other)) stood ≡ (stood && not (here && has gone other))
      parts true stood = refl
      parts false true = refl
      parts false false = refl

-- the set at a slot gets the letters of another
pub with_letters : (sets : List ℕ) (slot new more : ℕ) → slot < length sets → ((other : ℕ) → has new other ≡ (set_has sets slot other || has more other)) → (at other : ℕ)
    → set_has (set sets slot new) at other ≡ (set_has sets at other || (eqb at slot && has more other))
with_letters sets slot new more within each at other =
    set_has-set sets slot new (λ o b. b || has more o) within each at other ∙ parts (eqb at slot) (set_has sets at other) where
      parts : (here stood : Bool) → cond here (stood || has more other) stood ≡ (stood || (here && has more other))
      parts true stood = refl
      parts false true = refl
      parts false false = refl

-- the set at a slot gets a letter
pub with_letter : (sets : List ℕ) (slot new letter : ℕ) → slot < length sets → ((other : ℕ) → has new other ≡ (set_has sets slot other || eqb other letter)) → (at other : ℕ)
    → set_has (set sets slot new) at other ≡ (set_has sets at other || (eqb at slot && eqb other letter))
with_letter sets slot new letter within each at other =
    set_has-set sets slot new (λ o b. b || eqb o letter) within each at other ∙ parts (eqb at slot) (set_has sets at other) where
      parts : (here stood : Bool) → cond here (stood || eqb other letter) stood ≡ (stood || (here && eqb other letter))
      parts true stood = refl
      parts false true = refl
      parts false false = refl
