-- Lemmas on the notes of wholly entered lights.
use Rattle.std.proofs.Common.{◌≡◌, ℕ, suc, ◌≤◌, Bool, true, false, List, get_or, Option, Some, None, refl, sym, ◌∙◌, arith}
use Rattle.std.specs.Prelude.{is_some, IfSome}
use Rattle.std.proofs.lemmas.Bool.{true≢false, lt-ltb, le-ltb, ltb-true, ltb-false}
use Rattle.xw_search.specs.Position.{Position}
use Rattle.xw_fill.specs.Inner.EnteredSince.{within, noted, SpellApart, StayNoted}

-- the note of a light after an update
pub record IsNotedAgain (before after : Option ℕ) (placements : ℕ) (entered : Bool) : Type 0 where
  pub stay : (fewer : ℕ) → fewer ≤ placements → within after fewer ≡ within before fewer
  pub now : within after (suc placements) ≡ entered
  pub any : is_some after ≡ entered

pub noted-kept : (before : Option ℕ) (placements : ℕ) (entered : Bool) → within before placements ≡ true → entered ≡ true → IsNotedAgain before before placements entered
noted-kept None placements entered h is = absurd (true≢false (sym h))
noted-kept (Some since) placements entered h is = record {
  stay = λ fewer below. refl;
  now = lt-ltb since (suc placements) (let under = ltb-true since placements h in omega arith) ∙ sym is;
  any = sym is;
}

pub noted-new : (before after : Option ℕ) (placements : ℕ) (entered : Bool) → within before placements ≡ false → is_some after ≡ entered → IfSome after (λ since. since ≡ placements) → IsNotedAgain before after placements entered
noted-new before after placements entered h any at = record { stay = λ fewer below. late after fewer below at ∙ sym (early before fewer below h); now = now after any at; any = any } where
  late : (o : Option ℕ) (fewer : ℕ) → fewer ≤ placements → IfSome o (λ since. since ≡ placements) → within o fewer ≡ false
  late None fewer below is = refl
  late (Some since) fewer below is = le-ltb since fewer (omega (arith, is))

  early : (o : Option ℕ) (fewer : ℕ) → fewer ≤ placements → within o placements ≡ false → within o fewer ≡ false
  early None fewer below none = refl
  early (Some since) fewer below none = le-ltb since fewer (let over = ltb-false since placements none in omega arith)

  now : (o : Option ℕ) → is_some o ≡ entered → IfSome o (λ since. since ≡ placements) → within o (suc placements) ≡ entered
  now None none is = none
  now (Some since) some is = lt-ltb since (suc placements) (omega (arith, is)) ∙ some

-- no note is from fewer than 0 placements
pub noted-none : (since : List (Option ℕ)) (light : ℕ) → noted since 0 light ≡ true → ⊥
noted-none since light h = split (get_or since light None) h where
  split : (o : Option ℕ) → within o 0 ≡ true → ⊥
  split None e = true≢false (sym e)
  split (Some n) e = let under = ltb-true n 0 e in omega arith

pub apart-stay : (position : Position) (placements : ℕ) (before after : List (Option ℕ)) → StayNoted placements before after → SpellApart position (noted before placements) → SpellApart position (noted after placements)
apart-stay position placements before after stay apart = λ light other below in_grid first second. apart light other below in_grid (sym (stay light placements (omega arith)) ∙ first) (sym (stay other placements (omega arith)) ∙ second)
