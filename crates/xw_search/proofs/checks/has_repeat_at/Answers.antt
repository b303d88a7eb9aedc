use Rattle.std.proofs.Common.{◌≡◌, ◌∙◌, sym, subst, ℕ, Some}
use Rattle.std.specs.Prelude.{◌⊎◌}
use Rattle.xw_feas.specs.Passes.{Passes}
use Rattle.xw_search.specs.Position.{position_of}
use Rattle.xw_search.proofs.CheckLemmas.{apart_at}
use Rattle.xw_search.proofs.checks.has_repeat_at.Goals as goal

pub returns-else-repeated-clause-no : goal.returns-else-repeated-clause-no
returns-else-repeated-clause-no g c is_false =
    let across = c.lights_at-across.result.0 in
    let down = c.lights_at-across.result.1 in
    let only = subst (λ board. (light : ℕ) → Passes board c.args.cell light → (across ≡ Some light) ⊎ (down ≡ Some light)) c.board.ensures c.lights_at-across.ensures.only in
    apart_at (position_of (g.E.Feasible.state c.args.engine.now)) c.args.cell across down only (sym c.repeated.ensures ∙ c.if-repeated.false) (sym c.repeated-else-repeated.ensures ∙ is_false)
