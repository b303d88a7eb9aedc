use Rattle.std.proofs.Common.{sym, ◌∙◌, arith}
use Rattle.xw_files.proofs.CellLemmas.{map-more, map-end, length-map-cells}
use Rattle.xw_files.specs.Puz.Writing.{mark_of}
use Rattle.xw_files.proofs.puz.circles.marks_of.Goals as goal

pub loop-index-preserved : goal.loop-index-preserved
loop-index-preserved c =
    c.in_ok-push.ensures.items
    ∙ rw (c.mark_of.ensures, c.cell_at.ensures.cell, c.loop-index.invariant) (sym (map-more (mark_of c.args.grid.now c.args.circles.now) c.args.grid.now c.loop-index.index (omega arith)))

pub returns-clause-marks : goal.returns-clause-marks
returns-clause-marks c = c.loop-index.invariant ∙ map-end (mark_of c.args.grid.now c.args.circles.now) c.args.grid.now c.loop-index.index (omega arith)

pub returns-clause-few : goal.returns-clause-few
returns-clause-few c =
    let marks = c.loop-index.invariant ∙ map-end (mark_of c.args.grid.now c.args.circles.now) c.args.grid.now c.loop-index.index (omega arith) in
    rw marks (omega (arith, length-map-cells (mark_of c.args.grid.now c.args.circles.now) c.args.grid.now, c.size-index-end.ensures.size, c.size-index-end.ensures.small))
