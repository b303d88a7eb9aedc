-- Which supports a light has to forget, by the kind of the change.
use Rattle.std.proofs.Common.{◌≡◌, ℕ, ◌+◌, ◌-◌, ◌*◌, ◌<◌, Bool, true, false, not, ◌&&◌, eqb, leb, ltb, cond, List, length, get_or, Some, None, refl, sym, ap, ◌∙◌, arith}
use Rattle.std.specs.Prelude.{Option}
use Rattle.std.proofs.lemmas.Bool.{eqb-true, ltb-true}
use Rattle.xw_grid.specs.declared.lights.Light.{Light}
use Rattle.xw_feas.specs.Board.{Board}
use Rattle.xw_net.specs.Inner.Forget.{nowhere, cut, lose, lost_from, Forgets}
use Rattle.xw_net.specs.Marks.{slot_at}
use Rattle.xw_net.specs.Renumber.{same_before}
use Rattle.xw_net.proofs.Edits.SameLights.{none_new}

-- at lights that stayed, only the changed word counts
pub lost_same : (lights : List Light) (light : ℕ) → light < length lights → (word : Option (ℕ × ℕ)) (size known : ℕ) → lost_from word (same_before lights lights light) size known ≡ lost_from word (Some 0) size known
lost_same lights light within word size known = split word (same_before lights lights light) refl where
  split : (word : Option (ℕ × ℕ)) (same : Option ℕ) → same_before lights lights light ≡ same → lost_from word same size known ≡ lost_from word (Some 0) size known
  split word None none = absurd (none_new lights lights refl light within none)
  split None (Some other) at = refl
  split (Some changed) (Some other) at = refl

-- no light has to forget any if the word is not the last of its length
pub lost_none : (counts : ℕ → ℕ) (len index size : ℕ) → leb (counts len) (index + 1) ≡ false → lost_from (Some (len, index)) (Some 0) size (counts size) ≡ nowhere
lost_none counts len index size early = split (eqb len size) refl where
  split : (same : Bool) → eqb len size ≡ same → cond (same && leb (counts size) (index + 1)) index nowhere ≡ nowhere
  split false is = refl
  split true is = ap (λ b. cond b index nowhere) (ap (λ n. leb (counts n) (index + 1)) (sym (eqb-true len size is)) ∙ early)

pub not_true : (b : Bool) → not b ≡ true → b ≡ false
not_true false is = refl
not_true true is = sym is

lose_none : (held : ℕ) → lose nowhere held ≡ held
lose_none held = split (ltb nowhere nowhere) refl where
  split : (less : Bool) → ltb nowhere nowhere ≡ less → cond less (cut nowhere held) held ≡ held
  split false is = refl
  split true is = absurd (omega (arith, ltb-true nowhere nowhere is))

-- if no light has to forget any, all stays
pub forgets_nothing : (board : Board) (first : ℕ → ℕ) (held pending : List ℕ) → ((light : ℕ) → light < length board.lights → first light ≡ nowhere) → Forgets board first held held pending pending
forgets_nothing board first held pending none = record {
  held_len = refl;
  pending_len = refl;
  cuts = λ light position letter here capital. let at = get_or held (26 * slot_at board light position + (letter - 65)) 0 in sym (ap (λ from. lose from at) (none light here.0) ∙ lose_none at);
  less = λ slot letter has. has;
  cleared = λ light position letter here below. absurd (omega (arith, none light here.0, below));
}
