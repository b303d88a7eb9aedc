use Rattle.std.proofs.Common.{◌≡◌, true, false, ap, length, sym, ◌∙◌}
use Rattle.std.specs.Prelude.{◌==◌}
use Rattle.xw_session.specs.Erase.{erased_if, emptied}
use Rattle.xw_session.proofs.Erasing.{first_taken, second_taken}
use Rattle.xw_session.proofs.session.erasing.erased_cells.Goals as goal

pub returns-then-is_empty : goal.returns-then-is_empty
returns-then-is_empty g c =
    let engine = g.E.Feasible.state c.args.engine.now in
    let light = c.args.light.now in
    let none : (length (emptied (erased_if engine true light)) == 0) ≡ true = ap (λ cells. length cells == 0) (sym (c.list.ensures ∙ c.cells_erased-loose.ensures)) ∙ sym c.is_empty.ensures ∙ c.if-is_empty.true in
    c.cells_erased.ensures ∙ sym (second_taken (erased_if engine true light) (erased_if engine false light) none)

pub returns-else-is_empty : goal.returns-else-is_empty
returns-else-is_empty g c =
    let engine = g.E.Feasible.state c.args.engine.now in
    let light = c.args.light.now in
    let some : (length (emptied (erased_if engine true light)) == 0) ≡ false = ap (λ cells. length cells == 0) (sym (c.list.ensures ∙ c.cells_erased-loose.ensures)) ∙ sym c.is_empty.ensures ∙ c.if-is_empty.false in
    c.cells_erased-loose.ensures ∙ sym (first_taken (erased_if engine true light) (erased_if engine false light) some)
