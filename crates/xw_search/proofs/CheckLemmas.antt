-- Lemmas on what speaks against a fill.
use Rattle.std.proofs.Common.{◌≡◌, ℕ, ◌+◌, ◌<◌, Bool, true, false, not, ◌&&◌, ◌==◌, Option, Some, None, sym, ◌∙◌, ap, inl, inr, add-one, arith, IfSome}
use Rattle.std.specs.Prelude.{◌⊎◌}
use Rattle.std.proofs.lemmas.Bool.{and_parts, and_from, and_left, and_right, or_from, false≢true, true≢false, false_from_ne_true, ne_eqb, eq-eqb}
use Rattle.xw_feas.specs.Passes.{Passes}
use Rattle.xw_search.specs.Position.{Position}
use Rattle.xw_search.specs.Below.{any_below}
use Rattle.xw_search.specs.Lights.{light_count, is_entered, spell_same, is_repeat, is_spelled_again}
use Rattle.xw_search.proofs.BelowLemmas.{any_below-from, any_below-gives}
use Rattle.xw_search.proofs.RepeatLemmas.{repeat_again}
use Rattle.xw_search.specs.Progress.{repeats_with, IsRepeatedAt, IsApartAt}

-- one more number fails
pub any_below-more : (test : ℕ → Bool) (n : ℕ) → any_below test n ≡ false → test n ≡ false → any_below test (n + 1) ≡ false
any_below-more test n before here = rw add-one (or_from (any_below test n) (test n) before here)

-- another light spells the same as a light
abbrev pub is_twin : Position → ℕ → ℕ → Bool
is_twin now light other = not (other == light) && spell_same now light other

-- a light that is not wholly entered
pub again-not_entered : (now : Position) (light : ℕ) → is_entered now light ≡ false → is_spelled_again now light ≡ false
again-not_entered now light not_entered = false_from_ne_true (is_spelled_again now light) (λ h.
    let found = any_below-gives (is_twin now light) (light_count now) h in
    let same = (and_parts (not (found.0 == light)) (spell_same now light found.0) found.2).1 in
    true≢false (sym (and_parts (is_entered now light) _ same).0 ∙ not_entered))

pub again-here : (now : Position) (light other : ℕ) → other < light_count now → (other ≡ light → ⊥) → spell_same now light other ≡ true → is_spelled_again now light ≡ true
again-here now light other below apart same = any_below-from (is_twin now light) (light_count now) other below (and_from (not (other == light)) (spell_same now light other) (ap not (ne_eqb other light apart)) same)

pub twin-itself : (now : Position) (light other : ℕ) → other ≡ light → is_twin now light other ≡ false
twin-itself now light other same = and_left (not (other == light)) (spell_same now light other) (ap not (eq-eqb other light same))

pub twin-apart : (now : Position) (light other : ℕ) → spell_same now light other ≡ false → is_twin now light other ≡ false
twin-apart now light other apart = and_right (not (other == light)) (spell_same now light other) apart

-- no light repeats an earlier one, so none spells the same as another one
pub never_again : (now : Position) → any_below (is_repeat now) (light_count now) ≡ false → (light : ℕ) → light < light_count now → is_spelled_again now light ≡ false
never_again now apart light in_grid = false_from_ne_true (is_spelled_again now light) (λ h. true≢false (sym (repeat_again now light in_grid h) ∙ apart))

-- a light that repeats an earlier one
pub repeated_from : (now : Position) → any_below (is_repeat now) (light_count now) ≡ true → IsRepeatedAt now
repeated_from now h =
    let found = any_below-gives (is_repeat now) (light_count now) h in
    let earlier = any_below-gives (spell_same now found.0) found.0 found.2 in
    let before = earlier.1 in
    let in_grid = found.1 in
    (found.0, found.1, again-here now found.0 earlier.0 (omega (arith, before, in_grid)) (λ same. let e = same in omega (arith, before, e)) earlier.2)

-- ---- the lights through a cell

-- a light through a cell that spells the same as another one
pub repeated_at : (now : Position) (cell : ℕ) (light : Option ℕ) → IfSome light (Passes now.board cell) → repeats_with now light ≡ true → IsRepeatedAt now
repeated_at now cell None passes h = absurd (false≢true h)
repeated_at now cell (Some light) passes h = (light, passes.0, h)

-- no light through a cell does
pub apart_at : (now : Position) (cell : ℕ) (across down : Option ℕ) → ((light : ℕ) → Passes now.board cell light → (across ≡ Some light) ⊎ (down ≡ Some light)) → repeats_with now across ≡ false → repeats_with now down ≡ false → IsApartAt now cell
apart_at now cell across down only not_across not_down light passes = elim (only light passes) [
  | inl at ↦ sym (ap (repeats_with now) at) ∙ not_across
  | inr at ↦ sym (ap (repeats_with now) at) ∙ not_down
]
