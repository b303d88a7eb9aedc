use Rattle.std.proofs.Common.{◌≡◌, Some, sym, ◌∙◌, ap, subst}
use Rattle.std.specs.Prelude.{unwrap_or}
use Rattle.xw_grid.specs.declared.lights.Light.{Light}
use Rattle.xw_net.specs.Gone.{IsAmong, IsFreedAt}
use Rattle.xw_net.proofs.Revivals.FreedCells.{raises_as}
use Rattle.xw_net.proofs.gone.raise_if_gone.Goals as goal

same_light : (a b : Light) → Some a ≡ Some b → a ≡ b
same_light a b h = ap (λ o. unwrap_or o a) h

pub returns-in-None-Some : goal.returns-in-None-Some
returns-in-None-Some c =
    raises_as c.args.board.now (IsAmong c.args.grid.now c.in-None-Some.light c.in-None-Some.light.size) (IsFreedAt c.args.grid.now c.args.before.now c.args.lights.now c.args.other) _ _ _ _
    (λ cell is. record { light = c.in-None-Some.light; gone = record { at = sym (c.in-None-Some.ensures'); none = sym (c.in-None-Some.ensures) }; among = is })
    (λ cell is. let e = same_light is.light c.in-None-Some.light (sym is.gone.at ∙ sym (c.in-None-Some.ensures')) in subst (λ (l : Light). IsAmong c.args.grid.now l l.size cell) e is.among)
    c.raise_along.ensures
