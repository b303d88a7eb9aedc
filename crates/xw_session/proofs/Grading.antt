-- Grades of named lights.
use Rattle.std.proofs.Common.{◌≡◌, true, false, List, [], ◌∷◌, refl, sym, ◌∙◌, ap, arith}
use Rattle.std.specs.Prelude.{Option, Some, None, is_some, flat_map}
use Rattle.std.specs.Iterator.{YieldsFirst}
use Rattle.std.proofs.lemmas.Bool.{and_parts, and_from, false_from_ne_true}
use Rattle.xw_grid.specs.declared.cell.LightName.{LightName}
use Rattle.xw_grid.specs.Light.{lights_of, index_named}
use Rattle.xw_commands.specs.declared.command.LightArg.{LightArg}
use Rattle.xw_feas.specs.State.{State}
use Rattle.xw_search.specs.NamedFill.{AreLights}
use Rattle.xw_session.specs.NamedSearch.{names_of}
use Rattle.xw_session.specs.Grades.{entered_line, named_line, grade_lines}
use Rattle.xw_session.specs.Reports.{light_report}
use Rattle.xw_session.specs.Reply.{are_lights}
use Rattle.xw_session.proofs.Naming.{IsLight, head_of, tail_of, with_head}

module _ (engine : State) where
  -- ---- which lights there are

  pub all_there : (names : List LightName) → AreLights engine names → are_lights engine.grid names ≡ true
  all_there [] are = refl
  all_there (name ∷ names) are = and_from _ _ (head_of (IsLight engine) name names are) (all_there names (tail_of (IsLight engine) name names are))

  each_there : (names : List LightName) → are_lights engine.grid names ≡ true → AreLights engine names
  each_there [] e = λ k d below. absurd (omega (arith, below))
  each_there (name ∷ names) e =
      let parts = and_parts (is_some (index_named (lights_of engine.grid) name)) (are_lights engine.grid names) e in
      with_head (IsLight engine) name names parts.0 (each_there names parts.1)

  pub some_missing : (names : List LightName) → (AreLights engine names → ⊥) → are_lights engine.grid names ≡ false
  some_missing names none = false_from_ne_true _ (λ e. none (each_there names e))

  -- ---- which lines are written

  pub none_named : (lights left : List LightArg) (next : Option LightArg) → YieldsFirst (λ lights. lights) lights next left → is_some next ≡ false → light_report entered_line engine ≡ grade_lines engine (names_of lights)
  none_named lights left None steps e = ap (λ ls. grade_lines engine (names_of ls)) (sym steps.0)
  none_named lights left (Some light) steps e = cc

  pub some_named : (lights left : List LightArg) (next : Option LightArg) → YieldsFirst (λ lights. lights) lights next left → is_some next ≡ true → flat_map (named_line engine) (names_of lights) ≡ grade_lines engine (names_of lights)
  some_named lights left None steps e = cc
  some_named lights left (Some light) steps e =
      ap (λ ls. flat_map (named_line engine) (names_of ls)) steps ∙ ap (λ ls. grade_lines engine (names_of ls)) (sym steps)
