-- Lemmas on dead positions, the chosen light, and the number of lights that are not wholly entered.
use Rattle.std.proofs.Common.{◌≡◌, ◌≢◌, ℕ, zero, suc, ◌<◌, ◌≤◌, Bool, true, false, cond, not, ◌&&◌, List, length, get_or, Option, Some, None, refl, sym, ◌∙◌, ap, subst, arith, inl, inr}
use Rattle.std.specs.Prelude.{nat_lt, bytes_eq}
use Rattle.std.proofs.lemmas.Bool.{and_parts, and_from, cases_Bool, false≢true, cases_eq, or_parts, or_from, cond_both, false_from_ne_true}
use Rattle.std.proofs.lemmas.Slice.Eq.{bytes_eq-Decides}
use Rattle.xw_feas.specs.Board.{Board, entry, agrees, light_at}
use Rattle.xw_search.specs.Position.{Position, placed}
use Rattle.xw_search.proofs.Shaped.{IsShaped}
use Rattle.xw_search.specs.Below.{any_below, count_below}
use Rattle.xw_search.specs.FeasibleWords.{feasible_words}
use Rattle.xw_search.specs.Listing.{IsActive}
use Rattle.xw_search.specs.Lights.{light_count, is_entered, spelling, spell_same, is_repeat, lacks_words}
use Rattle.xw_fill.specs.Search.{is_dead, with_fewer, chosen_below, chosen, unentered_count}
use Rattle.xw_search.proofs.BelowLemmas.{any_below-gives, any_below-none, Among}
use Rattle.xw_search.proofs.FeasibleWordsLemmas.{feasible-gives}
use Rattle.xw_search.proofs.PlacingLemmas.{entered-at, entered-from, agrees-length, entries_with-at, entries_with-kept, AreDistinct, length-entries_with}
use Rattle.xw_search.proofs.LightLemmas.{cells_within, open_base}

pub count_below-positive : (test : ℕ → Bool) (n k : ℕ) → k < n → test k ≡ true → 0 < count_below test n
count_below-positive test zero k below passes = absurd (omega arith)
count_below-positive test (suc n) k below passes =
    elim (cases_eq k n) [
      | inl e ↦ let here : cond {A = ℕ} (test n) 1 0 ≡ 1 = ap (λ b. cond {A = ℕ} b 1 0) (ap test (sym e) ∙ passes) in omega arith
      | inr ne ↦ let rest = count_below-positive test n k (omega arith) passes in omega arith
    ]

one_or_none : (after before : Bool) → (after ≡ true → before ≡ true) → cond {A = ℕ} after 1 0 ≤ cond {A = ℕ} before 1 0
one_or_none true before h = rw (h refl) (omega arith)
one_or_none false before h = omega arith

pub count_below-le : (after before : ℕ → Bool) (n : ℕ) → ((k : ℕ) → k < n → after k ≡ true → before k ≡ true) → count_below after n ≤ count_below before n
count_below-le after before zero h = omega arith
count_below-le after before (suc n) h =
    let rest = count_below-le after before n (λ k below. h k (omega arith)) in
    let here = one_or_none (after n) (before n) (h n (omega arith)) in
    omega arith

pub count_below-less : (after before : ℕ → Bool) (n k : ℕ) → ((j : ℕ) → j < n → after j ≡ true → before j ≡ true) → k < n → after k ≡ false → before k ≡ true → count_below after n < count_below before n
count_below-less after before zero k h below gone was = absurd (omega arith)
count_below-less after before (suc n) k h below gone was =
    elim (cases_eq k n) [
      | inl e ↦
          let rest = count_below-le after before n (λ j under. h j (omega arith)) in
          let none : cond {A = ℕ} (after n) 1 0 ≡ 0 = ap (λ b. cond {A = ℕ} b 1 0) (ap after (sym e) ∙ gone) in
          let one : cond {A = ℕ} (before n) 1 0 ≡ 1 = ap (λ b. cond {A = ℕ} b 1 0) (ap before (sym e) ∙ was) in
          omega arith
      | inr ne ↦
          let rest = count_below-less after before n k (λ j under. h j (omega arith)) (omega arith) gone was in
          let here = one_or_none (after n) (before n) (h n (omega arith)) in
          omega arith
    ]

-- the chosen light
abbrev IsOpenBelow : Position → ℕ → ℕ → Type 0
IsOpenBelow position n light = (light < n) × (is_entered position light ≡ false)

with_fewer_is : (position : Position) (best : Option ℕ) (n : ℕ) → ((light : ℕ) → best ≡ Some light → IsOpenBelow position n light) → is_entered position n ≡ false → IsOpenBelow position (suc n) (with_fewer position best n)
with_fewer_is position None n h here = (omega arith, here)
with_fewer_is position (Some best) n h here =
    let before = h best refl in
    cond_both (nat_lt (length (feasible_words position n)) (length (feasible_words position best))) n best (IsOpenBelow position (suc n)) (λ e. (omega arith, here)) (λ e. (omega (arith, before.0), before.1))

pub chosen_below-Some : (position : Position) (n light : ℕ) → chosen_below position n ≡ Some light → IsOpenBelow position n light
chosen_below-Some position zero light h = cc
chosen_below-Some position (suc n) light h = split (chosen_below-Some position n) (is_entered position n) refl h where
  split : ((other : ℕ) → chosen_below position n ≡ Some other → IsOpenBelow position n other) → (b : Bool) → is_entered position n ≡ b → cond b (chosen_below position n) (Some (with_fewer position (chosen_below position n) n)) ≡ Some light → IsOpenBelow position (suc n) light
  split before true e g = let found = before light g in (omega (arith, found.0), found.1)
  split before false e g = let same : with_fewer position (chosen_below position n) n ≡ light = cc in subst (IsOpenBelow position (suc n)) same (with_fewer_is position (chosen_below position n) n before e)

pub chosen_below-None : (position : Position) (n : ℕ) → chosen_below position n ≡ None → (k : ℕ) → k < n → is_entered position k ≡ true
chosen_below-None position zero h k below = absurd (omega arith)
chosen_below-None position (suc n) h k below = split (chosen_below-None position n) (is_entered position n) refl h where
  split : (chosen_below position n ≡ None → (j : ℕ) → j < n → is_entered position j ≡ true) → (b : Bool) → is_entered position n ≡ b → cond b (chosen_below position n) (Some (with_fewer position (chosen_below position n) n)) ≡ None → is_entered position k ≡ true
  split before true e g = elim (cases_eq k n) [ inl here ↦ ap (is_entered position) here ∙ e | inr ne ↦ before g k (omega arith) ]
  split before false e g = cc

pub chosen-Some : (position : Position) (light : ℕ) → chosen position ≡ Some light → IsOpenBelow position (light_count position) light
unfolding chosen
chosen-Some position light h = chosen_below-Some position (light_count position) light h

pub chosen-None : (position : Position) → chosen position ≡ None → (k : ℕ) → k < light_count position → is_entered position k ≡ true
unfolding chosen
chosen-None position h k below = chosen_below-None position (light_count position) h k below

-- if a light is chosen, some light is not wholly entered
pub chosen-counted : (position : Position) (light : ℕ) → chosen position ≡ Some light → 0 < unentered_count position
chosen-counted position light h =
    let is = chosen-Some position light h in
    count_below-positive (λ other. not (is_entered position other)) (light_count position) light is.0 (ap not is.1)

-- consequences of a position that is not dead
pub alive-words : (position : Position) → is_dead position ≡ false → (light : ℕ) → light < light_count position → lacks_words position light ≡ false
unfolding is_dead
alive-words position h light below = any_below-none (lacks_words position) (light_count position) (or_parts (any_below (lacks_words position) (light_count position)) (any_below (is_repeat position) (light_count position)) h).0 light below

pub alive-distinct : (position : Position) → is_dead position ≡ false → (other light : ℕ) → other < light → light < light_count position → is_entered position light ≡ true → is_entered position other ≡ true → spelling position light ≢ spelling position other
unfolding is_dead
alive-distinct position h other light below in_grid entered entered_other same =
    let none = any_below-none (is_repeat position) (light_count position) (or_parts (any_below (lacks_words position) (light_count position)) (any_below (is_repeat position) (light_count position)) h).1 light in_grid in
    false≢true (sym (any_below-none (spell_same position light) light none other below) ∙ and_from _ _ entered (and_from _ _ entered_other ((bytes_eq-Decides (spelling position light) (spelling position other)).1 same)))

pub alive-from : (position : Position) → ((light : ℕ) → light < light_count position → lacks_words position light ≡ false) → ((other light : ℕ) → other < light → light < light_count position → is_entered position light ≡ true → is_entered position other ≡ true → spelling position light ≢ spelling position other) → is_dead position ≡ false
unfolding is_dead
alive-from position words distinct = or_from _ _
    (false_from_ne_true _ (λ h. let found = any_below-gives (lacks_words position) (light_count position) h in false≢true (sym (words found.0 found.1) ∙ found.2)))
    (false_from_ne_true _ (λ h.
    let found = any_below-gives (is_repeat position) (light_count position) h in
    let earlier = any_below-gives (spell_same position found.0) found.0 found.2 in
    let first = and_parts (is_entered position found.0) (is_entered position earlier.0 && bytes_eq (spelling position found.0) (spelling position earlier.0)) earlier.2 in
    let second = and_parts (is_entered position earlier.0) (bytes_eq (spelling position found.0) (spelling position earlier.0)) first.1 in
    distinct earlier.0 found.0 earlier.1 found.1 first.0 second.0 ((bytes_eq-Decides (spelling position found.0) (spelling position earlier.0)).0 second.1)))

pub open_feasible : (position : Position) (light : ℕ) (word : List ℕ) → light < light_count position → is_entered position light ≡ false → Among word (feasible_words position light) → IsActive position.words word × (agrees position.board (light_at position.board light) word ≡ true)
open_feasible position light word below not_entered among = open_base position.board position.words light word below not_entered (feasible-gives position light word among).0

pub cells_distinct : (board : Board) → IsShaped board → (light : ℕ) → AreDistinct (light_at board light)
cells_distinct board laid light j k below_j below_k e = laid.distinct light j k below_j below_k e

-- a placement keeps the shape of the board
pub placed-laid : (position : Position) (light : ℕ) (word : List ℕ) → IsShaped position.board → IsShaped (placed position light word).board
placed-laid position light word laid = record {
  entries = length-entries_with position.board.entries (light_at position.board light) word ∙ laid.entries;
  cells_open = laid.cells_open;
  short = laid.short;
  distinct = laid.distinct;
  cross_once = laid.cross_once;
}

-- a placement keeps every entry
pub placed-kept : (position : Position) (light : ℕ) (word : List ℕ) → IsShaped position.board → agrees position.board (light_at position.board light) word ≡ true → (cell letter : ℕ) → entry position.board cell ≡ Some letter → entry (placed position light word).board cell ≡ Some letter
placed-kept position light word laid agree = entries_with-kept position.board (light_at position.board light) word (cells_distinct position.board laid light) agree (cells_within position.board laid light)

-- after a placement the cells of the light hold the word's letters
pub placed-at : (position : Position) (light : ℕ) (word : List ℕ) → IsShaped position.board → length word ≡ length (light_at position.board light) → (k : ℕ) → k < length (light_at position.board light) → entry (placed position light word).board (get_or (light_at position.board light) k 0) ≡ Some (get_or word k 0)
placed-at position light word laid long k below = entries_with-at position.board.entries (light_at position.board light) word (cells_distinct position.board laid light) long k below (cells_within position.board laid light k below)

-- a wholly entered light stays wholly entered
pub placed-entered : (position : Position) (light : ℕ) (word : List ℕ) → IsShaped position.board → agrees position.board (light_at position.board light) word ≡ true → (other : ℕ) → is_entered position other ≡ true → is_entered (placed position light word) other ≡ true
placed-entered position light word laid agree other entered =
    entered-from (placed position light word).board (light_at position.board other) (λ k below.
    let found = entered-at position.board (light_at position.board other) entered k below in
    (found.0, placed-kept position light word laid agree (get_or (light_at position.board other) k 0) found.0 found.1))

pub placed-enters : (position : Position) (light : ℕ) (word : List ℕ) → IsShaped position.board → length word ≡ length (light_at position.board light) → is_entered (placed position light word) light ≡ true
placed-enters position light word laid long =
    entered-from (placed position light word).board (light_at position.board light) (λ k below. (get_or word k 0, placed-at position light word laid long k below))

-- a placement leaves fewer lights to enter
pub placed-fewer : (position : Position) (light : ℕ) (word : List ℕ) → IsShaped position.board → agrees position.board (light_at position.board light) word ≡ true → light < light_count position → is_entered position light ≡ false → unentered_count (placed position light word) < unentered_count position
placed-fewer position light word laid agree below not_entered =
    count_below-less (λ other. not (is_entered (placed position light word) other)) (λ other. not (is_entered position other)) (light_count position) light
    (λ other under open_now. elim (cases_Bool (is_entered position other)) [
      | inl entered ↦ absurd (false≢true (sym (ap not (placed-entered position light word laid agree other entered)) ∙ open_now))
      | inr not_yet ↦ ap not not_yet
    ])
    below
    (ap not (placed-enters position light word laid (agrees-length position.board (light_at position.board light) word agree)))
    (ap not not_entered)
