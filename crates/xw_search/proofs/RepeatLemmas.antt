-- To find repeats after a placement, it is enough to test the lights that it completed.
use Rattle.std.proofs.Common.{◌≡◌, ◌≢◌, ℕ, ◌<◌, true, false, not, ◌&&◌, None, sym, ◌∙◌, ap, inl, inr}
use Rattle.std.specs.Prelude.{◌==◌, bytes_eq, is_some}
use Rattle.std.proofs.lemmas.Bool.{and_parts, and_from, and_left, cases_order, false≢true, eq-eqb}
use Rattle.std.proofs.lemmas.Slice.Eq.{bytes_eq-Decides}
use Rattle.xw_search.specs.Position.{Position}
use Rattle.xw_search.specs.Below.{any_below}
use Rattle.xw_search.specs.Lights.{light_count, is_entered, spelling, spell_same, is_repeat, first_same, is_spelled_again}
use Rattle.xw_search.proofs.BelowLemmas.{any_below-from, any_below-gives, any_below-first, first_below-all}

-- a light that is not wholly entered repeats no other
pub not_same : (position : Position) (light other : ℕ) → is_entered position light ≡ false → spell_same position light other ≡ false
not_same position light other gap = and_left _ _ gap

pub not_first : (position : Position) (light : ℕ) → is_entered position light ≡ false → first_same position light ≡ None
not_first position light gap = first_below-all (spell_same position light) light (λ other below. not_same position light other gap)

pub not_repeat : (position : Position) (light : ℕ) → is_entered position light ≡ false → is_repeat position light ≡ false
not_repeat position light gap = any_below-first (spell_same position light) light ∙ ap is_some (not_first position light gap)

-- two lights that spell the same do so in either order
pub spell_same-turned : (position : Position) (light other : ℕ) → spell_same position light other ≡ true → spell_same position other light ≡ true
spell_same-turned position light other h =
    let first = and_parts (is_entered position light) (is_entered position other && bytes_eq (spelling position light) (spelling position other)) h in
    let second = and_parts (is_entered position other) (bytes_eq (spelling position light) (spelling position other)) first.1 in
    let same = (bytes_eq-Decides (spelling position light) (spelling position other)).0 second.1 in
    and_from _ _ second.0 (and_from _ _ first.0 ((bytes_eq-Decides (spelling position other) (spelling position light)).1 (sym same)))

repeat_from : (position : Position) (light other : ℕ) → light ≢ other → light < light_count position → other < light_count position → spell_same position light other ≡ true → any_below (is_repeat position) (light_count position) ≡ true
repeat_from position light other apart in_grid other_in h = elim (cases_order light other) [
  | inl same ↦ absurd (apart same)
  | inr order ↦ elim order [
    | inl before ↦ any_below-from (is_repeat position) (light_count position) other other_in (any_below-from (spell_same position other) other light before (spell_same-turned position light other h))
    | inr after ↦ any_below-from (is_repeat position) (light_count position) light in_grid (any_below-from (spell_same position light) light other after h)
  ]
]

pub repeat_again : (position : Position) (light : ℕ) → light < light_count position → is_spelled_again position light ≡ true → any_below (is_repeat position) (light_count position) ≡ true
repeat_again position light in_grid h =
    let found = any_below-gives (λ index. not (index == light) && spell_same position light index) (light_count position) h in
    let parts = and_parts (not (found.0 == light)) (spell_same position light found.0) found.2 in
    repeat_from position light found.0 (λ same. false≢true (sym (ap not (eq-eqb found.0 light (sym same))) ∙ parts.0)) in_grid found.1 parts.1
