use Rattle.std.proofs.Common.{subst, sym, ap, ◌∙◌}
use Rattle.xw_grid.specs.declared.cell.Direction.TheVariants.{Down}
use Rattle.xw_grid.specs.Light.{no_light, index_through}
use Rattle.xw_grid.specs.LightTable.{IsLightTable, entry_for}
use Rattle.xw_grid.proofs.LightTableLemmas.{table_right}
use Rattle.xw_grid.proofs.lights.Lights.down_at.Goals as goal

pub returns : goal.returns
returns c =
    let inner = c.self.inside in
    let kept = c.self.invariant in
    c.at.ensures
    ∙ ap (λ table. entry_for inner.width inner.height table c.args.cell) c.deref.ensures.value
    ∙ ap (λ w. entry_for w inner.height inner.down.items c.args.cell) kept.wide
    ∙ ap (λ h. entry_for kept.grid.width h inner.down.items c.args.cell) kept.high
    ∙ table_right kept.grid Down inner.down.items c.args.cell no_light (subst (λ lights. IsLightTable kept.grid lights Down inner.down.items) kept.whole kept.by_column)
    ∙ ap (λ lights. index_through lights Down c.args.cell) (sym kept.whole ∙ c.self.view_is)
