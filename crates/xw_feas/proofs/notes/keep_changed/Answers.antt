use Rattle.std.proofs.Common.{◌<◌, length, sym, ◌∙◌, arith}
use Rattle.std.proofs.lemmas.List.Filters.{FiltersInPlace-more_no, FiltersInPlace-more_set}
use Rattle.xw_feas.proofs.notes.keep_changed.Goals as goal
use Rattle.xw_feas.proofs.notes.keep_changed.Goals.{then-is_changed, else-is_changed}

pub loop-index-preserved : goal.loop-index-preserved
loop-index-preserved c =
    let below : c.loop-index.index < length c.loop-index.noted = omega (arith, c.loop-index-test.true, c.loop-index.invariant.long) in
    elim c.if-is_changed.branch [
      | then-is_changed w ↦ rw (w.noted-is, w.count-is) (FiltersInPlace-more_set c.loop-index.invariant below (sym c.is_changed.ensures ∙ w.if-is_changed.true) c.index-noted-index.is)
      | else-is_changed w ↦ rw (w.noted-is, w.count-is) (FiltersInPlace-more_no c.loop-index.invariant below (sym c.is_changed.ensures ∙ w.if-is_changed.false) c.index-noted-index.is)
    ]
