-- Lights that a command names.
use Rattle.std.proofs.Common.{◌≡◌, zero, suc, Bool, true, false, [], ◌∷◌, ◌++◌, Some, None, is_ok, is_err, IfSome, IfNone, append_assoc, sym, ◌∙◌, ap, subst, inl, inr, arith}
use Rattle.std.specs.Prelude.{List, All, Option, is_some, if◌then◌else◌, Result, Ok, Err, IfErr, OnOk}
use Rattle.std.proofs.lemmas.Bool.{false≢true}
use Rattle.xw_grid.specs.declared.cell.LightName.{LightName}
use Rattle.xw_grid.specs.Light.{lights_of, index_named}
use Rattle.xw_commands.specs.declared.command.LightArg.{LightArg}
use Rattle.xw_feas.specs.State.{State}
use Rattle.xw_feas.specs.declared.edit.Refusal.{Refusal}
use Rattle.xw_search.specs.NamedFill.{AreLights, IsRefusal}
use Rattle.xw_session.specs.Reply.{name_of_light}
use Rattle.xw_session.specs.NamedSearch.{names_of, IsUnsearched}

-- ---- which lights there are

module _ {X : Type 0} (P : X → Type 0) (x : X) (xs : List X) where
  pub head_of : All P (x ∷ xs) → P x
  head_of all = all 0 x (omega arith)

  pub tail_of : All P (x ∷ xs) → All P xs
  tail_of all = λ k d below. all (suc k) d (omega (arith, below))

  pub with_head : P x → All P xs → All P (x ∷ xs)
  with_head head tail zero d below = head
  with_head head tail (suc k) d below = tail k d (omega (arith, below))

module _ (engine : State) where
  -- the light of a command is in the grid
  abbrev is_there : LightArg → Bool
  is_there named = is_some (index_named (lights_of engine.grid) (name_of_light named))

  -- all these lights are in the grid if the remaining ones are
  pub record AreLeft (lights left : List LightArg) : Type 0 where
    pub all : AreLights engine (names_of left) → AreLights engine (names_of lights)
    pub some : AreLights engine (names_of lights) → AreLights engine (names_of left)

  abbrev pub IsLight : LightName → Type 0
  IsLight name = is_some (index_named (lights_of engine.grid) name) ≡ true

  pub one_known : (lights left rest : List LightArg) (named : LightArg) → AreLeft lights left → left ≡ named ∷ rest → is_there named ≡ true → AreLeft lights rest
  one_known lights left rest named are is there = record {
    all = λ known. are.all (subst (λ ls. AreLights engine (names_of ls)) (sym is) (with_head IsLight (name_of_light named) (names_of rest) there known));
    some = λ known. tail_of IsLight (name_of_light named) (names_of rest) (subst (λ ls. AreLights engine (names_of ls)) is (are.some known));
  }

  pub one_unknown : (lights left rest : List LightArg) (named : LightArg) → AreLeft lights left → left ≡ named ∷ rest → is_there named ≡ false → AreLights engine (names_of lights) → ⊥
  one_unknown lights left rest named are is missing known =
      let there = head_of IsLight (name_of_light named) (names_of rest) (subst (λ ls. AreLights engine (names_of ls)) is (are.some known)) in
      absurd (false≢true (sym missing ∙ there))

-- ---- results of calls

pub when_none : {X : Type 0} {P : Type 0} (result : Option X) → P → IfNone result P
when_none None p = p
when_none (Some x) p = tt

pub if_none : {X : Type 0} {P : Type 0} (result : Option X) → is_some result ≡ false → IfNone result P → P
if_none None is p = p
if_none (Some x) is p = cc

pub if_some : {P : Type 0} (name : LightName) (result : Option LightName) → is_some result ≡ true → IfSome result (λ found. (found ≡ name) × P) → P
if_some name None is p = cc
if_some name (Some found) is p = p.1

pub if_pushed : {X Y Z : Type 0} (result : Result X Y) (now more less : Z) → is_err result ≡ false → now ≡ (if is_ok result then more else less) → now ≡ more
if_pushed (Ok x) now more less is e = e
if_pushed (Err y) now more less is e = cc

-- the names so far and those that are left
pub one_named : (lights left rest : List LightArg) (named : LightArg) (name : LightName) (names : List LightName) → names_of lights ≡ names ++ names_of left → left ≡ named ∷ rest → name ≡ name_of_light named
    → names_of lights ≡ (names ++ name ∷ []) ++ names_of rest
one_named lights left rest named name names so_far is same =
    so_far ∙ ap (λ ls. names ++ names_of ls) is ∙ ap (λ n. names ++ n ∷ names_of rest) (sym same) ∙ sym (append_assoc names (name ∷ []) (names_of rest))

-- a search of lights that the grid has is refused only if an allocation failed
pub unsearched : {X : Type 0} (engine : State) (names : List LightName) (result : Result X Refusal) → AreLights engine names → IfErr result (IsRefusal engine names) → IfErr result (IsUnsearched engine names)
unsearched engine names (Ok found) there refused = tt
unsearched engine names (Err refusal) there (inl none) = absurd (none.1 there)
unsearched engine names (Err refusal) there (inr memory) = inr (there, memory)

-- a fact holds whatever the result is
pub on_ok : {X Y P : Type 0} (result : Result X Y) → P → OnOk result P
on_ok (Ok x) p = p
on_ok (Err y) p = tt
