-- The specified reply when a text is put into a field.
use Rattle.std.proofs.Common.{◌≡◌, ℕ, Bool, true, false, not, List, [], ◌∷◌, ◌++◌, Some, None, refl, ◌∙◌, ap}
use Rattle.std.specs.Prelude.{Option, Result, Ok, Err, IsOk, if◌then◌else◌}
use Rattle.std.specs.Option.{is_some}
use Rattle.xw_commands.specs.declared.command.Field.{Field}
use Rattle.xw_commands.specs.declared.command.TextMode.{TextMode}
use Rattle.xw_commands.specs.declared.command.TextMode.TheVariants.{Behind}
use Rattle.xw_session.specs.declared.session.putting.Target.{Target}
use Rattle.xw_answers.specs.declared.refusal.CommandRefusal.{CommandRefusal}
use Rattle.xw_answers.specs.declared.refusal.CommandRefusal.TheVariants as refusals
use Rattle.xw_session.specs.State.{SessionState}
use Rattle.xw_answers.specs.Escape.{text_spelled, has_nul}
use Rattle.xw_session.specs.Put.{target_of, has_target, text_at, with_text_at, with_piece}
use Rattle.xw_session.specs.Reply.{Reply, put, edited, want_of_text, grid_memory}
use Rattle.xw_answers.proofs.Escapes.{nul_spelled}

pub spelled_some : (found : Option (List ℕ)) → is_some found ≡ true → (piece : List ℕ) × (found ≡ Some piece)
spelled_some None e = cc
spelled_some (Some piece) e = (piece, refl)

first_of_three : {X : Type 0} (a b : Bool) (x y z : X) → a ≡ true → b ≡ true → (if not a then x else if b then y else z) ≡ y
first_of_three true true x y z p q = refl
first_of_three true false x y z p q = cc
first_of_three false b x y z p q = cc

pub last_of_three : {X : Type 0} (a b : Bool) (x y z : X) → a ≡ true → b ≡ false → (if not a then x else if b then y else z) ≡ z
last_of_three true false x y z p q = refl
last_of_three true true x y z p q = cc
last_of_three false b x y z p q = cc

module _ (state : SessionState) (putting : TextMode) (field : Field) (spelling : List ℕ) where
  pub nul_due : is_some (text_spelled spelling) ≡ true → has_target state.engine.grid (target_of field) ≡ true → has_nul spelling ≡ true
      → put state putting field (text_spelled spelling) ≡ Err refusals.NulByte
  nul_due is targeted nul =
      let found = spelled_some (text_spelled spelling) is in
      ap (put state putting field) found.1
      ∙ first_of_three (has_target state.engine.grid (target_of field)) (has_nul found.0) _ _ _ targeted (nul_spelled false spelling found.0 found.1 ∙ nul)

  pub put_due : is_some (text_spelled spelling) ≡ true → has_target state.engine.grid (target_of field) ≡ true → has_nul spelling ≡ false
      → (piece : List ℕ) × (text_spelled spelling ≡ Some piece) × (put state putting field (text_spelled spelling) ≡ edited (with_piece state putting (target_of field) piece))
  put_due is targeted plain =
      let found = spelled_some (text_spelled spelling) is in (
        found.0,
        found.1,
        ap (put state putting field) found.1
            ∙ last_of_three (has_target state.engine.grid (target_of field)) (has_nul found.0) _ _ _ targeted (nul_spelled false spelling found.0 found.1 ∙ plain),
      )

is_edited : (due : Result Reply CommandRefusal) (state : SessionState) → due ≡ edited state → IsOk due
is_edited (Ok reply) state e = refl
is_edited (Err refusal) state e = cc

wanted : (spelling : List ℕ) → (spelling ≡ [] → ⊥) → want_of_text spelling ≡ Some grid_memory
wanted [] some = absurd (some refl)
wanted (byte ∷ bytes) some = refl

-- if a text is put, an allocation may fail
pub memory_due : (state : SessionState) (putting : TextMode) (field : Field) (spelling : List ℕ) → is_some (text_spelled spelling) ≡ true → has_target state.engine.grid (target_of field) ≡ true → has_nul spelling ≡ false
    → (spelling ≡ [] → ⊥) → IsOk (put state putting field (text_spelled spelling)) × (want_of_text spelling ≡ Some grid_memory)
memory_due state putting field spelling is targeted plain some =
    let due = put_due state putting field spelling is targeted plain in
    (is_edited (put state putting field (text_spelled spelling)) (with_piece state putting (target_of field) due.0) due.2, wanted spelling some)

-- a piece that is not empty is appended
pub put_behind : (state : SessionState) (target : Target) (piece : List ℕ) → (piece ≡ [] → ⊥) → with_text_at state target (text_at state target ++ piece) ≡ with_piece state Behind target piece
put_behind state target [] some = absurd (some refl)
put_behind state target (byte ∷ bytes) some = refl
