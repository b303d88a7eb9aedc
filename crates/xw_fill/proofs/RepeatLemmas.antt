-- To find repeats after a placement, it is enough to test the lights that it completed.
use Rattle.std.proofs.Common.{◌≡◌, ◌≢◌, ℕ, ◌<◌, Bool, true, false, not, ◌&&◌, List, get_or, sym, ◌∙◌, ap, arith, inl, inr}
use Rattle.std.specs.Prelude.{◌==◌}
use Rattle.std.proofs.lemmas.Bool.{and_parts, and_from, and_right, cases_Bool, false≢true, false_from_ne_true, ne_eqb}
use Rattle.std.proofs.lemmas.Slice.Eq.{bytes_eq-Decides}
use Rattle.xw_feas.specs.Board.{light_at, agrees}
use Rattle.xw_search.specs.Position.{Position, placed}
use Rattle.xw_search.specs.Below.{any_below}
use Rattle.xw_search.specs.Lights.{light_count, is_entered, spelling, spell_same, is_repeat, is_spelled_again}
use Rattle.xw_fill.specs.Search.{is_dead}
use Rattle.xw_fill.specs.Inner.EnteredSince.{AreEntered, SpellApart}
use Rattle.xw_search.proofs.Shaped.{IsShaped}
use Rattle.xw_search.proofs.BelowLemmas.{any_below-from, any_below-gives}
use Rattle.xw_search.proofs.PlacingLemmas.{entered-at, spelled-same}
use Rattle.xw_search.proofs.RepeatLemmas.{not_same, spell_same-turned}
use Rattle.xw_fill.proofs.SearchLemmas.{alive-distinct, placed-kept}

pub not_again : (position : Position) (light : ℕ) → is_entered position light ≡ false → is_spelled_again position light ≡ false
not_again position light gap = false_from_ne_true _ (λ h.
    let found = any_below-gives (λ index. not (index == light) && spell_same position light index) (light_count position) h in
    let parts = and_parts (not (found.0 == light)) (spell_same position light found.0) found.2 in
    false≢true (sym (not_same position light found.0 gap) ∙ parts.1))

-- the light spells the same as another light
pub again-from : (position : Position) (light other : ℕ) → other ≢ light → other < light_count position → spell_same position light other ≡ true → is_spelled_again position light ≡ true
again-from position light other apart in_grid h =
    any_below-from (λ index. not (index == light) && spell_same position light index) (light_count position) other in_grid (and_from _ _ (ap not (ne_eqb other light apart)) h)

-- no repeat exists if the lights with notes all differ and no other light is spelled again
pub no_new_repeat : (position : Position) (is_noted : ℕ → Bool) → SpellApart position is_noted → ((light : ℕ) → light < light_count position → is_noted light ≡ false → is_spelled_again position light ≡ false) → any_below (is_repeat position) (light_count position) ≡ false
no_new_repeat position is_noted apart none = false_from_ne_true _ (λ h.
    let light = any_below-gives (is_repeat position) (light_count position) h in
    let other = any_below-gives (spell_same position light.0) light.0 light.2 in
    let other_in : other.0 < light_count position = omega (arith, light.1, other.1) in
    elim (cases_Bool (is_noted light.0)) [
      | inr new ↦ false≢true (sym (none light.0 light.1 new) ∙ again-from position light.0 other.0 (λ e. omega (arith, other.1)) other_in other.2)
      | inl old ↦ elim (cases_Bool (is_noted other.0)) [
        | inr new ↦ false≢true (sym (none other.0 other_in new) ∙ again-from position other.0 light.0 (λ e. omega (arith, other.1)) light.1 (spell_same-turned position light.0 other.0 other.2))
        | inl old_too ↦ false≢true (sym (apart light.0 other.0 other.1 light.1 old old_too) ∙ other.2)
      ]
    ])

-- placing a word does not change the letters of wholly entered lights
placed-spells : (position : Position) (light : ℕ) (word : List ℕ) → IsShaped position.board → agrees position.board (light_at position.board light) word ≡ true → (other : ℕ) → is_entered position other ≡ true → spelling (placed position light word) other ≡ spelling position other
placed-spells position light word shape agree other entered =
    spelled-same (placed position light word).board position.board (light_at position.board other) (λ k under.
    let found = entered-at position.board (light_at position.board other) entered k under in
    placed-kept position light word shape agree (get_or (light_at position.board other) k 0) found.0 found.1 ∙ sym found.1)

-- after a placement at a position that is not dead, the lights that were wholly entered before still all differ
pub placed-apart : (position : Position) (is_noted : ℕ → Bool) (light : ℕ) (word : List ℕ) → IsShaped position.board → agrees position.board (light_at position.board light) word ≡ true → is_dead position ≡ false → AreEntered position is_noted → SpellApart (placed position light word) is_noted
placed-apart position is_noted light word shape agree alive noted = λ one other before in_grid first second.
    let other_in : other < light_count position = omega arith in
    let entered_one : is_entered position one ≡ true = sym (noted one in_grid) ∙ first in
    let entered_other : is_entered position other ≡ true = sym (noted other other_in) ∙ second in
    let now = placed position light word in
    and_right _ _ (and_right _ _ (false_from_ne_true _ (λ h.
    alive-distinct position alive other one before in_grid entered_one entered_other
    (sym (placed-spells position light word shape agree one entered_one) ∙ (bytes_eq-Decides (spelling now one) (spelling now other)).0 h ∙ placed-spells position light word shape agree other entered_other))))
