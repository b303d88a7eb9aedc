-- Lemmas on the cells to be filled, and on lists that grow by one element.
use Rattle.std.proofs.Common.{◌≡◌, ℕ, ◌+◌, ◌<◌, ◌≤◌, Bool, true, false, List, [], ◌∷◌, ◌++◌, length, get_or, Option, Some, None, sym, ◌∙◌, ap, subst, arith, inl, inr, IfSome}
use Rattle.std.specs.Prelude.{◌⊎◌, All, Contains}
use Rattle.std.specs.List.{list_any}
use Rattle.std.proofs.lemmas.Bool.{cases_Bool, cases_eq, false≢true, true≢false, false_from_ne_true}
use Rattle.std.proofs.lemmas.List.{get_or_push, get_or_append_left}
use Rattle.std.proofs.lemmas.List.Elements.{All-push, Contains-push, Contains-append_left}
use Rattle.xw_feas.specs.Passes.{Passes}
use Rattle.xw_search.specs.Position.{Position}
use Rattle.xw_search.specs.NamedFill.{is_in_named}
use Rattle.xw_search.specs.Progress.{is_flagged}
use Rattle.xw_search.proofs.NamedFills.{any_where, in_named-from, in_named-gives}

-- ---- a cell in a named light

-- a cell that a named light passes through
pub in_named-here : (named : ℕ → Bool) (position : Position) (cell : ℕ) (light : Option ℕ) → IfSome light (Passes position.board cell) → is_flagged named light ≡ true → is_in_named named position cell ≡ true
in_named-here named position cell None passes flagged = absurd (false≢true flagged)
in_named-here named position cell (Some light) passes flagged =
    subst (λ c. is_in_named named position c ≡ true) passes.1.2 (in_named-from named position light passes.1.0 passes.0 flagged passes.1.1)

in_named-not : (named : ℕ → Bool) (position : Position) (cell : ℕ) (across down : Option ℕ) → ((light : ℕ) → Passes position.board cell light → (across ≡ Some light) ⊎ (down ≡ Some light))
    → is_flagged named across ≡ false → is_flagged named down ≡ false → is_in_named named position cell ≡ false
in_named-not named position cell across down only not_across not_down = false_from_ne_true (is_in_named named position cell) (λ h.
    let there = in_named-gives named position cell h in
    elim (only there.0 (there.2, (there.1, there.4, there.5))) [
      | inl at ↦ true≢false (sym (ap (is_flagged named) at ∙ there.3) ∙ not_across)
      | inr at ↦ true≢false (sym (ap (is_flagged named) at ∙ there.3) ∙ not_down)
    ])

-- a cell whose light across is not named
pub in_named-down : (named : ℕ → Bool) (position : Position) (cell : ℕ) (across down : Option ℕ) → IfSome down (Passes position.board cell) → ((light : ℕ) → Passes position.board cell light → (across ≡ Some light) ⊎ (down ≡ Some light))
    → is_flagged named across ≡ false → is_flagged named down ≡ is_in_named named position cell
in_named-down named position cell across down passes only not_across = elim (cases_Bool (is_flagged named down)) [
  | inl is ↦ is ∙ sym (in_named-here named position cell down passes is)
  | inr not_down ↦ not_down ∙ sym (in_named-not named position cell across down only not_across not_down)
]

-- ---- lists

-- no element passes
pub any_none : (test : ℕ → Bool) (cells : List ℕ) (n : ℕ) → length cells ≤ n → ((k : ℕ) → k < n → test (get_or cells k 0) ≡ false) → list_any test cells ≡ false
any_none test cells n long fails = false_from_ne_true (list_any test cells) (λ h.
    let found = any_where test cells h in
    true≢false (sym found.2 ∙ fails found.0 (omega (arith, long, found.1))))

-- what holds of the numbers below one holds of one more
pub one_more : (P : ℕ → Type 0) (n : ℕ) → ((k : ℕ) → k < n → P k) → P n → (k : ℕ) → k < n + 1 → P k
one_more P n before here k below = elim (cases_eq k n) [
  | inl same ↦ subst P (sym same) here
  | inr apart ↦ before k (omega arith)
]

-- a list of flags takes one more
pub flags_more : (test : ℕ → Bool) (flags more : List Bool) (n : ℕ) (flag : Bool) → more ≡ flags ++ flag ∷ [] → length flags ≡ n → flag ≡ test n → ((k : ℕ) → k < n → get_or flags k false ≡ test k) → (k : ℕ) → k < n + 1 → get_or more k false ≡ test k
flags_more test flags more n flag is long here before = one_more (λ k. get_or more k false ≡ test k) n
    (λ k below. ap (λ l. get_or l k false) is ∙ get_or_append_left flags (flag ∷ []) false k (omega (arith, long)) ∙ before k below)
    (ap (λ l. get_or l n false) is ∙ get_or_push flags flag false n long ∙ here)

-- ---- the cells to be filled

-- the list has exactly the cells below a bound that pass
pub record AreThose (test : ℕ → Bool) (n : ℕ) (targets : List ℕ) : Type 0 where
  pub sound : All (λ cell. test cell ≡ true) targets
  pub all : (cell : ℕ) → cell < n → test cell ≡ true → Contains targets cell

pub those-none : (test : ℕ → Bool) (targets : List ℕ) → targets ≡ [] → AreThose test 0 targets
those-none test targets is = record {
  sound = subst (All (λ cell. test cell ≡ true)) (sym is) (λ k d below. absurd (omega arith));
  all = λ cell below passes. absurd (omega arith);
}

pub those-more : (test : ℕ → Bool) (n : ℕ) (targets more : List ℕ) → AreThose test n targets → more ≡ targets ++ n ∷ [] → test n ≡ true → AreThose test (n + 1) more
those-more test n targets more are is passes = record {
  sound = subst (All (λ cell. test cell ≡ true)) (sym is) (All-push (λ cell. test cell ≡ true) targets n are.sound passes);
  all = λ cell below h. subst (λ l. Contains l cell) (sym is) (elim (cases_eq cell n) [
    | inl same ↦ subst (λ c. Contains (targets ++ n ∷ []) c) (sym same) (Contains-push targets n)
    | inr apart ↦ Contains-append_left targets (n ∷ []) cell (are.all cell (omega arith) h)
  ]);
}

pub those-same : (test : ℕ → Bool) (n : ℕ) (targets : List ℕ) → AreThose test n targets → test n ≡ false → AreThose test (n + 1) targets
those-same test n targets are fails = record {
  sound = are.sound;
  all = λ cell below h. elim (cases_eq cell n) [
    | inl same ↦ absurd (true≢false (sym h ∙ ap test same ∙ fails))
    | inr apart ↦ are.all cell (omega arith) h
  ];
}
