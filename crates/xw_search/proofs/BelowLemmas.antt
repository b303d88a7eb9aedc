-- Lemmas on tests of numbers below a bound, and on searches through lists.
use Rattle.std.proofs.Common.{◌≡◌, ℕ, zero, suc, ◌+◌, ◌<◌, length, get_or, Bool, true, false, cond, List, [], ◌∷◌, ◌++◌, map, Option, Some, None, refl, sym, ◌∙◌, ap, subst, arith, inl, inr, add-one}
use Rattle.std.specs.Prelude.{filter, Contains, ◌⊎◌, is_some, position}
use Rattle.std.specs.List.{list_any, list_all, position_or_len}
use Rattle.std.proofs.lemmas.Bool.{lt-ltb, le-ltb, and_parts, and_from, cases_Bool, false≢true, cases_eq, or_left, or_right, or_cases, or_parts, false_from_ne_true}
use Rattle.std.proofs.lemmas.List.Sums.{position_or_len_is}
use Rattle.xw_search.specs.Below.{any_below, all_below, any_part, first_below, last_below}

pub any_below-from : (test : ℕ → Bool) (n k : ℕ) → k < n → test k ≡ true → any_below test n ≡ true
any_below-from test zero k below passes = absurd (omega arith)
any_below-from test (suc n) k below passes =
    elim (cases_eq k n) [
      | inl e ↦ or_right (any_below test n) (test n) (ap test (sym e) ∙ passes)
      | inr ne ↦ or_left (any_below test n) (test n) (any_below-from test n k (omega arith) passes)
    ]

pub any_below-gives : (test : ℕ → Bool) (n : ℕ) → any_below test n ≡ true → (k : ℕ) × (k < n) × (test k ≡ true)
any_below-gives test zero h = absurd (false≢true h)
any_below-gives test (suc n) h =
    elim (or_cases (any_below test n) (test n) h) [
      | inl there ↦ let found = any_below-gives test n there in (found.0, omega arith, found.2)
      | inr here ↦ (n, omega arith, here)
    ]

pub any_below-none : (test : ℕ → Bool) (n : ℕ) → any_below test n ≡ false → (k : ℕ) → k < n → test k ≡ false
any_below-none test zero h k below = absurd (omega arith)
any_below-none test (suc n) h k below =
    let parts = or_parts (any_below test n) (test n) h in
    elim (cases_eq k n) [
      | inl e ↦ ap test e ∙ parts.1
      | inr ne ↦ any_below-none test n parts.0 k (omega arith)
    ]

pub all_below-from : (test : ℕ → Bool) (n : ℕ) → ((k : ℕ) → k < n → test k ≡ true) → all_below test n ≡ true
all_below-from test zero h = refl
all_below-from test (suc n) h = and_from _ _ (all_below-from test n (λ k below. h k (omega arith))) (h n (omega arith))

pub all_below-at : (test : ℕ → Bool) (n k : ℕ) → k < n → all_below test n ≡ true → test k ≡ true
all_below-at test zero k below h = absurd (omega arith)
all_below-at test (suc n) k below h =
    let parts = and_parts (all_below test n) (test n) h in
    elim (cases_eq k n) [
      | inl e ↦ ap test e ∙ parts.1
      | inr ne ↦ all_below-at test n k (omega arith) parts.0
    ]

-- the value is a member of the list
abbrev pub Among : {X : Type 0} → X → List X → Type 0
Among x [] = ⊥
Among x (y ∷ ys) = (y ≡ x) ⊎ Among x ys

pub Among-contained : {X : Type 0} (x : X) (xs : List X) → Contains xs x → Among x xs
Among-contained x [] (k, below, at) = absurd (omega arith)
Among-contained x (y ∷ ys) (zero, below, at) = inl at
Among-contained x (y ∷ ys) (suc k, below, at) = inr (Among-contained x ys (k, omega arith, at))

pub Contains-among : {X : Type 0} (x : X) (xs : List X) → Among x xs → Contains xs x
Contains-among x [] h = absurd h
Contains-among x (y ∷ ys) (inl e) = (0, omega arith, e)
Contains-among x (y ∷ ys) (inr h) = let rest = Contains-among x ys h in (suc rest.0, omega arith, rest.2)

pub list_any-from : {X : Type 0} (test : X → Bool) (xs : List X) (x : X) → Among x xs → test x ≡ true → list_any test xs ≡ true
list_any-from test [] x h passes = absurd h
list_any-from test (y ∷ ys) x (inl e) passes = or_left (test y) (list_any test ys) (ap test e ∙ passes)
list_any-from test (y ∷ ys) x (inr h) passes = or_right (test y) (list_any test ys) (list_any-from test ys x h passes)

pub list_any-gives : {X : Type 0} (test : X → Bool) (xs : List X) → list_any test xs ≡ true → (x : X) × Among x xs × (test x ≡ true)
list_any-gives test [] h = absurd (false≢true h)
list_any-gives test (y ∷ ys) h =
    elim (or_cases (test y) (list_any test ys) h) [
      | inl here ↦ (y, inl refl, here)
      | inr there ↦ let found = list_any-gives test ys there in (found.0, inr found.1, found.2)
    ]

pub list_all-from : {X : Type 0} (test : X → Bool) (xs : List X) → ((x : X) → Among x xs → test x ≡ true) → list_all test xs ≡ true
list_all-from test [] h = refl
list_all-from test (y ∷ ys) h = and_from _ _ (h y (inl refl)) (list_all-from test ys (λ x among. h x (inr among)))

pub list_all-at : {X : Type 0} (test : X → Bool) (xs : List X) (x : X) → Among x xs → list_all test xs ≡ true → test x ≡ true
list_all-at test [] x among h = absurd among
list_all-at test (y ∷ ys) x (inl e) h = ap test (sym e) ∙ (and_parts (test y) (list_all test ys) h).0
list_all-at test (y ∷ ys) x (inr among) h = list_all-at test ys x among (and_parts (test y) (list_all test ys) h).1

pub Among-filter : {X : Type 0} (test : X → Bool) (xs : List X) (x : X) → Among x xs → test x ≡ true → Among x (filter test xs)
Among-filter test [] x among passes = absurd among
Among-filter test (y ∷ ys) x (inl e) passes = rw (ap test e ∙ passes) (inl e)
Among-filter test (y ∷ ys) x (inr among) passes =
    elim (cases_Bool (test y)) [
      | inl here ↦ rw here (inr (Among-filter test ys x among passes))
      | inr not_here ↦ rw not_here (Among-filter test ys x among passes)
    ]

pub Among-filtered : {X : Type 0} (test : X → Bool) (xs : List X) (x : X) → Among x (filter test xs) → Among x xs × (test x ≡ true)
Among-filtered test [] x among = absurd among
Among-filtered {X} test (y ∷ ys) x among = split (Among-filtered test ys x) (test y) refl among where
  split : (Among x (filter test ys) → Among x ys × (test x ≡ true)) → (b : Bool) → test y ≡ b → Among x (cond b (y ∷ filter test ys) (filter test ys)) → Among x (y ∷ ys) × (test x ≡ true)
  split further true passes (inl e) = (inl e, ap test (sym e) ∙ passes)
  split further true passes (inr rest) = let found = further rest in (inr found.0, found.1)
  split further false fails rest = let found = further rest in (inr found.0, found.1)

pub Among-append_left : {X : Type 0} (x : X) (xs ys : List X) → Among x xs → Among x (xs ++ ys)
Among-append_left x [] ys h = absurd h
Among-append_left x (y ∷ xs) ys (inl e) = inl e
Among-append_left x (y ∷ xs) ys (inr h) = inr (Among-append_left x xs ys h)

pub Among-append_right : {X : Type 0} (x : X) (xs ys : List X) → Among x ys → Among x (xs ++ ys)
Among-append_right x [] ys h = h
Among-append_right x (y ∷ xs) ys h = inr (Among-append_right x xs ys h)

pub Among-map : {X Y : Type 0} (f : X → Y) (x : X) (xs : List X) → Among x xs → Among (f x) (map f xs)
Among-map f x [] h = absurd h
Among-map f x (y ∷ ys) (inl e) = inl (ap f e)
Among-map f x (y ∷ ys) (inr h) = inr (Among-map f x ys h)

-- a filtered list is a sublist
pub any_part-from : {X : Type 0} (test : List X → Bool) (keep : X → Bool) (xs : List X) → test (filter keep xs) ≡ true → any_part test xs ≡ true
any_part-from test keep [] h = h
any_part-from {X} test keep (x ∷ xs) h = split (λ g. any_part-from (λ ys. test (x ∷ ys)) keep xs g) (λ g. any_part-from test keep xs g) (keep x) h where
  split : (test (x ∷ filter keep xs) ≡ true → any_part (λ ys. test (x ∷ ys)) xs ≡ true) → (test (filter keep xs) ≡ true → any_part test xs ≡ true) → (b : Bool) → test (cond b (x ∷ filter keep xs) (filter keep xs)) ≡ true → any_part test (x ∷ xs) ≡ true
  split with without true g = or_left _ _ (with g)
  split with without false g = or_right _ _ (without g)

pub any_part-gives : {X : Type 0} (test : List X → Bool) (xs : List X) → any_part test xs ≡ true → (ys : List X) × (test ys ≡ true)
any_part-gives test [] h = ([], h)
any_part-gives test (x ∷ xs) h =
    elim (or_cases (any_part (λ ys. test (x ∷ ys)) xs) (any_part test xs) h) [
      | inl with ↦ let found = any_part-gives (λ ys. test (x ∷ ys)) xs with in (x ∷ found.0, found.1)
      | inr without ↦ any_part-gives test xs without
    ]

-- the first number that passes
pub first_below-here : (test : ℕ → Bool) (n k : ℕ) → k < n → first_below test k ≡ None → test k ≡ true → first_below test n ≡ Some k
first_below-here test zero k below none passes = absurd (omega arith)
first_below-here test (suc n) k below none passes =
    elim (cases_eq k n) [
      | inl e ↦
          let before : first_below test n ≡ None = subst (λ m. first_below test m ≡ None) e none in
          let here : test n ≡ true = ap test (sym e) ∙ passes in
          rw (before, here) (ap Some (sym e))
      | inr ne ↦ let before : first_below test n ≡ Some k = first_below-here test n k (omega arith) none passes in rw before refl
    ]

pub first_below-all : (test : ℕ → Bool) (n : ℕ) → ((k : ℕ) → k < n → test k ≡ false) → first_below test n ≡ None
first_below-all test zero h = refl
first_below-all test (suc n) h =
    let before : first_below test n ≡ None = first_below-all test n (λ k below. h k (omega arith)) in
    let here : test n ≡ false = h n (omega arith) in
    rw (before, here) refl

pub first_below-more : (test : ℕ → Bool) (k : ℕ) → first_below test k ≡ None → test k ≡ false → first_below test (k + 1) ≡ None
first_below-more test k none fails = rw add-one (rw (none, fails) refl)

pub first_below-none : (test : ℕ → Bool) (n : ℕ) → first_below test n ≡ None → (k : ℕ) → k < n → test k ≡ false
first_below-none test zero h k below = absurd (omega arith)
first_below-none test (suc n) h k below = split (first_below-none test n) (first_below test n) refl (test n) refl h where
  split : (first_below test n ≡ None → (j : ℕ) → j < n → test j ≡ false) → (o : Option ℕ) → first_below test n ≡ o → (b : Bool) → test n ≡ b → cond (is_some o) o (cond b (Some n) None) ≡ None → test k ≡ false
  split before None e false here g = elim (cases_eq k n) [ inl same ↦ ap test same ∙ here | inr ne ↦ before e k (omega arith) ]
  split before None e true here g = cc
  split before (Some x) e b here g = cc

pub first_below-some : (test : ℕ → Bool) (n k : ℕ) → first_below test n ≡ Some k → (k < n) × (test k ≡ true)
first_below-some test zero k h = cc
first_below-some test (suc n) k h = split (first_below-some test n k) (first_below test n) refl (test n) refl h where
  split : (first_below test n ≡ Some k → (k < n) × (test k ≡ true)) → (o : Option ℕ) → first_below test n ≡ o → (b : Bool) → test n ≡ b → cond (is_some o) o (cond b (Some n) None) ≡ Some k → (k < suc n) × (test k ≡ true)
  split before None e true here g = let same : n ≡ k = cc in (omega arith, ap test (sym same) ∙ here)
  split before None e false here g = cc
  split before (Some x) e b here g = let found = before (e ∙ g) in (omega (arith, found.0), found.1)

-- some number passes if and only if there is a first one
pub any_below-first : (test : ℕ → Bool) (n : ℕ) → any_below test n ≡ is_some (first_below test n)
any_below-first test n = split (first_below test n) refl where
  split : (o : Option ℕ) → first_below test n ≡ o → any_below test n ≡ is_some o
  split None e = false_from_ne_true _ (λ h. let found = any_below-gives test n h in false≢true (sym (first_below-none test n e found.0 found.1) ∙ found.2))
  split (Some k) e = let found = first_below-some test n k e in any_below-from test n k found.0 found.1

-- the last number that passes
pub last_below-some : (test : ℕ → Bool) (n k : ℕ) → last_below test n ≡ Some k → (k < n) × (test k ≡ true) × ((j : ℕ) → k < j → j < n → test j ≡ false)
last_below-some test zero k h = cc
last_below-some test (suc n) k h = split (last_below-some test n k) (test n) refl h where
  split : (last_below test n ≡ Some k → (k < n) × (test k ≡ true) × ((j : ℕ) → k < j → j < n → test j ≡ false)) → (b : Bool) → test n ≡ b → cond b (Some n) (last_below test n) ≡ Some k → (k < suc n) × (test k ≡ true) × ((j : ℕ) → k < j → j < suc n → test j ≡ false)
  split before true here g = let same : n ≡ k = cc in (omega arith, ap test (sym same) ∙ here, λ j after below. absurd (omega arith))
  split before false here g =
      let found = before g in
      (omega (arith, found.0), found.1, λ j after below. elim (cases_eq j n) [ inl same ↦ ap test same ∙ here | inr ne ↦ found.2 j after (omega arith) ])

pub last_below-none : (test : ℕ → Bool) (n : ℕ) → last_below test n ≡ None → (k : ℕ) → k < n → test k ≡ false
last_below-none test zero h k below = absurd (omega arith)
last_below-none test (suc n) h k below = split (last_below-none test n) (test n) refl h where
  split : (last_below test n ≡ None → (j : ℕ) → j < n → test j ≡ false) → (b : Bool) → test n ≡ b → cond b (Some n) (last_below test n) ≡ None → test k ≡ false
  split before true here g = cc
  split before false here g = elim (cases_eq k n) [ inl same ↦ ap test same ∙ here | inr ne ↦ before g k (omega arith) ]

-- the first index that passes
pub position-here : {X : Type 0} (p : X → Bool) (xs : List X) (i : ℕ) (d : X) → i < length xs → ((k : ℕ) → k < i → p (get_or xs k d) ≡ false) → p (get_or xs i d) ≡ true → position p xs ≡ Some i
position-here p xs i d below before here =
    let at : position_or_len p xs ≡ i = position_or_len_is p xs i d (omega arith) before (λ under. here) in
    rw at (ap (λ b. cond b (Some i) None) (lt-ltb i (length xs) below))

pub position-none : {X : Type 0} (p : X → Bool) (xs : List X) (d : X) → ((k : ℕ) → k < length xs → p (get_or xs k d) ≡ false) → position p xs ≡ None
position-none p xs d none =
    let at : position_or_len p xs ≡ length xs = position_or_len_is p xs (length xs) d (omega arith) none (λ under. absurd (omega arith)) in
    rw at (ap (λ b. cond b (Some (length xs)) None) (le-ltb (length xs) (length xs) (omega arith)))
