-- The named lights of a call, and fills of all lights.
use Rattle.std.proofs.Common.{◌≡◌, ℕ, zero, suc, ◌+◌, ◌<◌, ◌≢◌, Bool, true, false, ◌&&◌, ◌||◌, ◌==◌, List, [], ◌∷◌, take, length, get_or, set, Option, Some, None, refl, sym, ◌∙◌, ap, arith, inl, inr}
use Rattle.std.specs.Prelude.{◌⊎◌, is_some, IfSome, IfNone}
use Rattle.std.specs.List.{list_any}
use Rattle.std.proofs.lemmas.Bool.{cases_eq, eq-eqb, ne_eqb, false≢true, true≢false}
use Rattle.std.proofs.lemmas.List.{take_more, get_or-set_same, get_or-set_other}
use Rattle.std.proofs.lemmas.List.Folds.{list_any-append}
use Rattle.xw_grid.specs.declared.cell.LightName.{LightName}
use Rattle.xw_grid.specs.Light.{lights_of, index_named}
use Rattle.xw_feas.specs.Board.{board_of}
use Rattle.xw_feas.specs.State.{State}
use Rattle.xw_feas.specs.WellFormed.{HasLetterEntries}
use Rattle.xw_search.specs.Position.{Position, position_of}
use Rattle.xw_search.specs.Lights.{light_count, is_repeat}
use Rattle.xw_search.specs.Below.{any_below}
use Rattle.xw_search.proofs.CheckLemmas.{never_again}
use Rattle.xw_search.specs.NamedFill.{flags, passes, is_light, IsChanged, IsFillOf, AreFlagged}
use Rattle.xw_search.specs.Progress.{IsOpen, IsPlan, AreAlive, entries_of}
use Rattle.xw_search.specs.declared.plan.Plan.{Plan}
use Rattle.xw_search.proofs.NamedFills.{entered_start}
use Rattle.xw_search.proofs.LetterSearch.{apart_from}

-- ---- flags

-- one more name sets one more flag
pub flagged_more : (state : State) (names : List LightName) (index light : ℕ) (before now : List Bool) (d : LightName) → index < length names → light < length now → index_named (lights_of state.grid) (get_or names index d) ≡ Some light
    → AreFlagged state (take index names) before now → AreFlagged state (take (index + 1) names) before (set now light true)
flagged_more state names index light before now d below within found flagged other in_grid =
    let named = λ (name : LightName). is_light other (index_named (lights_of state.grid) name) in
    let more : list_any named (take (index + 1) names) ≡ (list_any named (take index names) || named (get_or names index d)) =
    ap (list_any named) (take_more names index d below) ∙ list_any-append named (take index names) (get_or names index d ∷ []) ∙ ap (λ b. list_any named (take index names) || b) (or_false (named (get_or names index d))) in
    let here : named (get_or names index d) ≡ (light == other) = ap (is_light other) found in
    elim (cases_eq light other) [
      | inl same ↦
          ap (λ k. flags (set now light true) k) (sym same) ∙ get_or-set_same now light true false within
          ∙ sym (ap (λ b. flags before other || b) (more ∙ ap (λ b. list_any named (take index names) || b) (here ∙ eq-eqb light other same) ∙ or_true (list_any named (take index names))) ∙ or_true (flags before other))
      | inr apart ↦
          get_or-set_other now light other true false (λ e. apart (sym e)) ∙ flagged other in_grid
          ∙ ap (λ b. flags before other || b) (sym (more ∙ ap (λ b. list_any named (take index names) || b) (here ∙ ne_eqb light other apart) ∙ or_false (list_any named (take index names))))
    ] where
      or_false : (b : Bool) → (b || false) ≡ b
      or_false true = refl
      or_false false = refl

      or_true : (b : Bool) → (b || true) ≡ true
      or_true true = refl
      or_true false = refl

-- ---- the start

-- the search may begin where each watched light has a feasible word and no two lights spell the same
pub open_start : (start : State) (plan : Plan) (watched : List Bool) → HasLetterEntries (board_of start.grid) → IsPlan (position_of start) plan → watched ≡ plan.watched.items → AreAlive (flags watched) (position_of start)
    → any_below (is_repeat (position_of start)) (light_count (position_of start)) ≡ false → IsOpen (flags plan.named.items) (position_of start) (entries_of start)
open_start start plan watched letters is same alive apart = record {
  entered = entered_start (flags plan.named.items) (position_of start) letters;
  alive = λ light in_grid watch. alive light in_grid (ap (λ list. flags list light) same ∙ is.watched.are light in_grid ∙ watch);
  distinct = λ light other before in_grid whole whole_other.
      apart_from (position_of start) light other (never_again (position_of start) apart light (omega (arith, before, in_grid))) in_grid (λ e. let e' = e in omega (arith, before, e')) whole whole_other;
}

-- ---- the same lights

any_below-same : (f g : ℕ → Bool) (n : ℕ) → ((k : ℕ) → k < n → f k ≡ g k) → any_below f n ≡ any_below g n
any_below-same f g zero same = refl
any_below-same f g (suc n) same = ap (λ b. b || f n) (any_below-same f g n (λ k below. same k (omega arith))) ∙ ap (λ b. any_below g n || b) (same n (omega arith))

module _ (f g : ℕ → Bool) (position : Position) (same : (light : ℕ) → light < light_count position → f light ≡ g light) where
  pub fill_same : (entries : List (Option ℕ)) → IsFillOf f position entries → IsFillOf g position entries
  fill_same entries is = record {
    letters = is.letters;
    kept = is.kept;
    elsewhere = λ cell never. is.elsewhere cell (any_below-same (λ light. f light && passes position light cell) (λ light. g light && passes position light cell) (light_count position) (λ light in_grid. ap (λ b. b && passes position light cell) (same light in_grid)) ∙ never);
    entered = λ light in_grid named. is.entered light in_grid (same light in_grid ∙ named);
    words = is.words;
    distinct = is.distinct;
    alive = λ light in_grid why. is.alive light in_grid (which light in_grid why);
  } where
    which : (light : ℕ) → light < light_count position → (g light ≡ true) ⊎ IsChanged position entries light → (f light ≡ true) ⊎ IsChanged position entries light
    which light in_grid (inl named) = inl (same light in_grid ∙ named)
    which light in_grid (inr changed) = inr changed

-- ---- options

pub some_found : (P : ℕ → Type 0) (o : Option ℕ) → is_some o ≡ true → IfSome o P → (x : ℕ) × P x
some_found P None e is = absurd (false≢true e)
some_found P (Some x) e is = (x, is)

pub none_found : (P : Type 0) (o : Option ℕ) → is_some o ≡ false → IfNone o P → P
none_found P None e is = is
none_found P (Some x) e is = absurd (true≢false e)

-- ---- names

pub flagged_none : (state : State) (named : List Bool) → AreFlagged state [] named named
flagged_none state named light in_grid = sym (or_false (flags named light)) where
  or_false : (b : Bool) → (b || false) ≡ b
  or_false true = refl
  or_false false = refl
