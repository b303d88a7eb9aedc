-- What the notes of an edit have and what not.
use Rattle.std.proofs.Common.{◌≡◌, true, false, Some, None, refl, subst}
use Rattle.std.specs.Prelude.{Option, IfSome, IfNone, is_some}
use Rattle.xw_feas.specs.declared.effect.Effect.{Effect}
use Rattle.xw_feas.specs.declared.effect.Effect.TheVariants.{Nothing, Cells, List as EffectList, Shape, Word, Least}
use Rattle.xw_feas.specs.declared.notes.Notes.{Notes}
use Rattle.xw_feas.specs.Effect.{is_shape_by, word_by, word_of}

pub shape_without_word : (notes : Notes) → true ≡ is_shape_by notes.effect → word_of notes ≡ None
shape_without_word notes shape = by_effect notes.effect shape where
  by_effect : (effect : Effect) → true ≡ is_shape_by effect → word_by effect ≡ None
  by_effect Nothing is = refl
  by_effect Cells is = refl
  by_effect (EffectList count) is = refl
  by_effect (Shape before) is = refl
  by_effect (Word len index) is = cc
  by_effect (Least back) is = refl

-- what a clause says of an option that is there, or is not
pub some_gives : {X : Type 0} (P : X → Type 0) (found : Option X) (x : X) → found ≡ Some x → IfSome found P → P x
some_gives P found x some is = subst (λ o. IfSome o P) some is

pub none_gives : {X A : Type 0} (found : Option X) → found ≡ None → IfNone found A → A
none_gives {X} {A} found none is = subst (λ o. IfNone o A) none is

pub none_there : {X A : Type 0} (found : Option X) → is_some found ≡ false → IfNone found A → A
none_there None none is = is
none_there (Some x) none is = cc
