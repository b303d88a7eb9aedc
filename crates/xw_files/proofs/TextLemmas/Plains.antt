-- Taking the next line if it is not a tag line.
use Rattle.std.proofs.Common.{◌≡◌, ℕ, ◌⊎◌, List, [], ◌∷◌, Option, Some, None, refl, ap, subst, inl, inr}
use Rattle.std.proofs.lemmas.Bool.{cases_Bool}
use Rattle.xw_files.specs.Text.Tag.{is_tag_line}
use Rattle.xw_files.specs.Text.Shape.{Lines, plain_at}
use Rattle.xw_files.specs.Text.Relation.{IsPlain}

-- the next line is not a tag line, and was taken
pub record TakesPlain (lines : Lines) (line : List ℕ) (rest : Lines) : Type 0 where
  pub parts : lines ≡ line ∷ rest
  pub plain : IsPlain line

pub plain_takes : (lines : Lines) (line : List ℕ) → (plain_at lines).0 ≡ Some line → TakesPlain lines line (plain_at lines).1
plain_takes [] line e = absurd cc
plain_takes (first ∷ lines) line e =
    elim (cases_Bool (is_tag_line first)) [
      | inl tagged ↦ absurd (none_some (rw tagged at e))
      | inr plain ↦ rw plain (takes (rw plain at e) plain)
    ]
  where
    none_some : {A : Type 0} {x : A} → None ≡ Some x → ⊥
    none_some e = cc

    takes : Some first ≡ Some line → IsPlain first → TakesPlain (first ∷ lines) line lines
    takes same plain = let e : first ≡ line = cc in record { parts = ap (λ (t : List ℕ). t ∷ lines) e; plain = subst IsPlain e plain }

pub no_plain : (lines : Lines) → (plain_at lines).0 ≡ None → (plain_at lines).1 ≡ lines
no_plain [] e = refl
no_plain (first ∷ lines) e =
    elim (cases_Bool (is_tag_line first)) [
      | inl tagged ↦ rw tagged refl
      | inr plain ↦ absurd (some_none (rw plain at e))
    ]
  where
    some_none : {A : Type 0} {x : A} → Some x ≡ None → ⊥
    some_none e = cc

-- an option is Some or None
pub cases_option : {A : Type 0} (o : Option A) → ((x : A) × (o ≡ Some x)) ⊎ (o ≡ None)
cases_option None = inr refl
cases_option (Some x) = inl (x, refl)

-- a line that a step requires is there or missing
pub line_due : (lines : Lines) → ((line : List ℕ) × ((plain_at lines).0 ≡ Some line) × TakesPlain lines line (plain_at lines).1) ⊎ ((plain_at lines).0 ≡ None)
line_due lines =
    elim (cases_option (plain_at lines).0) [
      | inl found ↦ inl (found.0, found.1, plain_takes lines found.0 found.1)
      | inr none ↦ inr none
    ]
