use Rattle.std.proofs.Common.{◌≡◌, ◌∷◌, [], ◌++◌, None, ap, length, length-append, sym, ◌∙◌, arith}
use Rattle.std.specs.Prelude.{filter}
use Rattle.xw_grid.specs.Light.{line}
use Rattle.xw_session.specs.Erase.{is_erased, emptied}
use Rattle.xw_session.proofs.Erasing.{with_one_more, without_it}
use Rattle.xw_session.proofs.session.erasing.cells_erased.Goals as goal
use Rattle.xw_session.proofs.session.erasing.cells_erased.Goals.{then-is_erased, else-is_erased}

pub push-requires : goal.push-requires
push-requires g c = omega (arith, c.loop-k.invariant.few, c.loop-k-test.true, c.requires.short)

pub loop-k-preserved : goal.loop-k-preserved
loop-k-preserved g c =
    let light = c.args.light.now in
    let test = is_erased (g.E.Feasible.state c.args.engine.now) c.args.spares light.name.direction in
    let so_far = c.loop-k.invariant in
    elim c.if-is_erased.branch [
      | then-is_erased w ↦ rw w.emptied-is (record {
        is = w.push.ensures ∙ ap (λ cells. cells ++ (c.cell-cell.result, None) ∷ []) so_far.is ∙ sym (with_one_more test light.name.direction light.start c.loop-k.k c.cell-cell.result c.cell-cell.ensures (sym c.is_erased.ensures ∙ w.if-is_erased.true));
        few = omega (arith, so_far.few, ap length w.push.ensures, length-append c.loop-k.emptied ((c.cell-cell.result, None) ∷ []));
      })
      | else-is_erased w ↦ rw w.emptied-is (record {
        is = so_far.is ∙ sym (without_it test light.name.direction light.start c.loop-k.k c.cell-cell.result c.cell-cell.ensures (sym c.is_erased.ensures ∙ w.if-is_erased.false));
        few = omega (arith, so_far.few);
      })
    ]

pub returns : goal.returns
returns g c =
    let light = c.args.light.now in
    let all : c.loop-k.k ≡ light.size = omega (arith, c.loop-k-test.false, c.loop-k.auto.k-end) in
    c.loop-k.invariant.is ∙ ap (λ k. emptied (filter (is_erased (g.E.Feasible.state c.args.engine.now) c.args.spares light.name.direction) (line light.name.direction light.start k))) all
