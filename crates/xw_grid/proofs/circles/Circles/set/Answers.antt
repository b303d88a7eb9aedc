use Rattle.std.proofs.Common.{not, ap, sym, ◌∙◌, Bool, false}
use Rattle.std.specs.Prelude.{filter}
use Rattle.std.specs.List.{list_any}
use Rattle.std.specs.BTreeMap.{is_at}
use Rattle.xw_grid.specs.declared.cell.Cell.{Cell}
use Rattle.xw_grid.specs.Grid.{cell_cmp}
use Rattle.xw_grid.specs.Clue.{with_circle}
use Rattle.xw_grid.proofs.ClueLemmas.{removed_all_keys, same_tests}
use Rattle.xw_grid.proofs.circles.Circles.set.Goals as goal

pub returns-else-circled-clause-ok : goal.returns-else-circled-clause-ok
returns-else-circled-clause-ok c =
    let old = c.self.inside.cells.keys in
    let test = is_at (cell_cmp c.args.cell) in
    c.remove.ensures.keys
    ∙ removed_all_keys test old (ap (list_any test) (sym c.remove.ensures.keys) ∙ c.remove.ensures.updates.1)
    ∙ ap (λ (same : Cell → Bool). filter (λ other. not (same other)) old) (same_tests c.args.cell)
    ∙ ap (λ keys. with_circle keys c.args.cell false) c.self.view_is
    ∙ ap (with_circle c.args.self.now c.args.cell) (sym c.if-circled.false)
