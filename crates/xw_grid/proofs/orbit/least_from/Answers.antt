use Rattle.std.proofs.Common.{◌∙◌, ap, sym, subst, rules}
use Rattle.std.specs.Prelude.{nat_eq}
use Rattle.std.specs.List.{list_any}
use Rattle.xw_grid.specs.Orbit.{IsLeastFrom, nearer}
use Rattle.xw_grid.proofs.OrbitCellLemmas.{least_of_list}
use Rattle.xw_grid.proofs.orbit.least_from.Goals as goal

pub returns : goal.returns
returns c =
    let from = c.args.from in
    let indices = c.args.squares.now in
    let chain = c.nearer-3.ensures ∙ ap (nearer from _) (c.nearer-2.ensures ∙ ap (nearer from _) (c.nearer.ensures ∙ ap (nearer from _) c.nearer-last.ensures)) in
    subst (IsLeastFrom from (λ index. list_any (nat_eq index) indices)) (sym chain) (least_of_list from indices (search rules))
