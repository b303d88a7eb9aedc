-- The elements of lists, tests of all and of some of them, and the parts of a list.
use Rattle.std.proofs.Common.{◌≡◌, ℕ, set, zero, suc, Bool, true, false, cond, if◌then◌else◌, List, [], ◌∷◌, ◌++◌, map, refl, sym, ◌∙◌, ap, subst, arith, inl, inr}
use Rattle.std.specs.Prelude.{All, filter, slice_get, Contains}
use Rattle.std.specs.List.{list_any, list_all}
use Rattle.std.proofs.lemmas.Bool.{and_parts, and_from, or_cases, or_left, or_right, cases_Bool, false≢true}
use Rattle.std.proofs.lemmas.List.{get_or-map, length-map}
use Rattle.std.proofs.lemmas.List.Elements.{All-push, Contains-append_left, Contains-append_right}

-- ---- elements

pub contains_first : {X : Type 0} (x : X) (xs : List X) → Contains (x ∷ xs) x
contains_first x xs = (0, omega arith, refl)

pub contains_later : {X : Type 0} (x y : X) (xs : List X) → Contains xs x → Contains (y ∷ xs) x
contains_later x y xs (k, below, at) = (suc k, omega arith, at)

pub contains_mapped : {X Y : Type 0} (f : X → Y) (xs : List X) (x : X) → Contains xs x → Contains (map f xs) (f x)
contains_mapped f xs x (k, below, at) = (k, omega (arith, below, length-map xs f), get_or-map f xs k x (f x) below ∙ ap f at)

pub contains_filtered : {X : Type 0} (test : X → Bool) (xs : List X) (x : X) → Contains xs x → test x ≡ true → Contains (filter test xs) x
contains_filtered test [] x (k, below, at) passes = absurd (omega arith)
contains_filtered test (y ∷ ys) x (zero, below, at) passes = rw (at, passes) (contains_first x (filter test ys))
contains_filtered test (y ∷ ys) x (suc k, below, at) passes =
    let later = contains_filtered test ys x (k, omega arith, at) passes in
    elim (cases_Bool (test y)) [
      | inl also ↦ rw also (contains_later x y (filter test ys) later)
      | inr fails ↦ rw fails later
    ]

-- a write keeps the other elements
pub slice_get-set_other : {X : Type 0} (xs : List X) (at index : ℕ) (x : X) → (index ≡ at → ⊥) → slice_get (set xs at x) index ≡ slice_get xs index
slice_get-set_other [] at index x apart = refl
slice_get-set_other (y ∷ ys) zero zero x apart = absurd (apart refl)
slice_get-set_other (y ∷ ys) zero (suc index) x apart = refl
slice_get-set_other (y ∷ ys) (suc at) zero x apart = refl
slice_get-set_other (y ∷ ys) (suc at) (suc index) x apart = slice_get-set_other ys at index x (λ e. apart (ap suc e))

-- a fact of all elements after another one was pushed, if there was room for it
pub all_pushed : {X : Type 0} (P : X → Type 0) (list new : List X) (last : X) (pushed : Bool) → new ≡ (if pushed then list ++ last ∷ [] else list) → P last → All P list → All P new
all_pushed P list new last true are is all = subst (All P) (sym are) (All-push P list last all is)
all_pushed P list new last false are is all = subst (All P) (sym are) all

-- ---- tests

pub all_from : {X : Type 0} (test : X → Bool) (xs : List X) → ((x : X) → Contains xs x → test x ≡ true) → list_all test xs ≡ true
all_from test [] each = refl
all_from test (x ∷ xs) each = and_from _ _ (each x (contains_first x xs)) (all_from test xs (λ y there. each y (contains_later y x xs there)))

pub all_gives : {X : Type 0} (test : X → Bool) (xs : List X) → list_all test xs ≡ true → (x : X) → Contains xs x → test x ≡ true
all_gives test [] h x (k, below, at) = absurd (omega arith)
all_gives test (y ∷ ys) h x (zero, below, at) = subst (λ z. test z ≡ true) at (and_parts (test y) (list_all test ys) h).0
all_gives test (y ∷ ys) h x (suc k, below, at) = all_gives test ys (and_parts (test y) (list_all test ys) h).1 x (k, omega arith, at)

pub any_from : {X : Type 0} (test : X → Bool) (xs : List X) (x : X) → Contains xs x → test x ≡ true → list_any test xs ≡ true
any_from test [] x (k, below, at) h = absurd (omega arith)
any_from test (y ∷ ys) x (zero, below, at) h = or_left _ (list_any test ys) (subst (λ z. test z ≡ true) (sym at) h)
any_from test (y ∷ ys) x (suc k, below, at) h = or_right (test y) _ (any_from test ys x (k, omega arith, at) h)

pub any_gives : {X : Type 0} (test : X → Bool) (xs : List X) → list_any test xs ≡ true → (x : X) × Contains xs x × (test x ≡ true)
any_gives test [] h = absurd (false≢true h)
any_gives test (y ∷ ys) h = elim (or_cases (test y) (list_any test ys) h) [
  | inl here ↦ (y, contains_first y ys, here)
  | inr there ↦ let found = any_gives test ys there in (found.0, contains_later found.0 y ys found.1, found.2)
]

-- ---- parts

-- all sublists; each set that a test selects is among them
abbrev pub parts_of : {X : Type 0} → List X → List (List X)
parts_of [] = [] ∷ []
parts_of (x ∷ xs) = parts_of xs ++ map (λ part. x ∷ part) (parts_of xs)

pub part_picked : {X : Type 0} (test : X → Bool) (xs : List X) → Contains (parts_of xs) (filter test xs)
part_picked test [] = contains_first [] []
part_picked test (x ∷ xs) = by_test (test x) (part_picked test xs) where
  by_test : (b : Bool) → Contains (parts_of xs) (filter test xs) → Contains (parts_of xs ++ map (λ part. x ∷ part) (parts_of xs)) (cond b (x ∷ filter test xs) (filter test xs))
  by_test true rest = Contains-append_right (parts_of xs) (map (λ part. x ∷ part) (parts_of xs)) (x ∷ filter test xs) (contains_mapped (λ part. x ∷ part) (parts_of xs) (filter test xs) rest)
  by_test false rest = Contains-append_left (parts_of xs) (map (λ part. x ∷ part) (parts_of xs)) (filter test xs) rest
