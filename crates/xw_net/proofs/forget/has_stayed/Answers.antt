use Rattle.std.proofs.Common.{◌≡◌, true, List, refl, sym, ◌∙◌, ap, subst}
use Rattle.std.specs.Prelude.{is_some}
use Rattle.xw_grid.specs.declared.lights.Light.{Light}
use Rattle.xw_net.specs.Renumber.{same_before}
use Rattle.xw_net.proofs.Edits.SameLights.{some_old}
use Rattle.xw_net.proofs.Edits.ShapeNotes.{some_gives, none_gives}
use Rattle.xw_net.proofs.forget.has_stayed.Goals as goal

pub returns-in-Some : goal.returns-in-Some
returns-in-Some c =
    let lights = c.args.lights.now in
    c.is_some.ensures ∙ ap is_some c.same.ensures ∙ ap (λ (before : List Light). is_some (same_before before lights c.args.light)) (sym (some_gives _ c.before-2.result c.in-Some.before c.in-Some.is c.before-2.ensures.some lights))

pub returns-in-None : goal.returns-in-None
returns-in-None c =
    let lights = c.args.lights.now in
    subst (λ (before : List Light). true ≡ is_some (same_before before lights c.args.light)) (sym (none_gives c.before-2.result c.in-None.is c.before-2.ensures.none lights)) (some_old lights lights refl c.args.light c.requires)
