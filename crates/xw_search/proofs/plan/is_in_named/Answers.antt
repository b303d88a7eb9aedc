use Rattle.std.proofs.Common.{◌≡◌, ◌∙◌, sym, subst, ℕ, IfSome}
use Rattle.std.specs.Prelude.{◌⊎◌, Some}
use Rattle.xw_feas.specs.Passes.{Passes}
use Rattle.xw_search.specs.Position.{position_of}
use Rattle.xw_search.specs.NamedFill.{flags}
use Rattle.xw_search.proofs.PlanLemmas.{in_named-here, in_named-down}
use Rattle.xw_search.proofs.plan.is_in_named.Goals as goal

pub returns-then-is_flagged : goal.returns-then-is_flagged
returns-then-is_flagged g c =
    let across = c.lights_at-across.result.0 in
    let passes = subst (λ board. IfSome across (Passes board c.args.cell)) c.board.ensures c.lights_at-across.ensures.across in
    c.if-is_flagged.true ∙ sym (in_named-here (flags c.args.named.now) (position_of (g.E.Feasible.state c.args.engine.now)) c.args.cell across passes (sym c.is_flagged.ensures ∙ c.if-is_flagged.true))

pub returns-else-is_flagged : goal.returns-else-is_flagged
returns-else-is_flagged g c =
    let across = c.lights_at-across.result.0 in
    let down = c.lights_at-across.result.1 in
    let passes = subst (λ board. IfSome down (Passes board c.args.cell)) c.board.ensures c.lights_at-across.ensures.down in
    let only = subst (λ board. (light : ℕ) → Passes board c.args.cell light → (across ≡ Some light) ⊎ (down ≡ Some light)) c.board.ensures c.lights_at-across.ensures.only in
    c.is_flagged-else-is_flagged.ensures ∙ in_named-down (flags c.args.named.now) (position_of (g.E.Feasible.state c.args.engine.now)) c.args.cell across down passes only (sym c.is_flagged.ensures ∙ c.if-is_flagged.false)
