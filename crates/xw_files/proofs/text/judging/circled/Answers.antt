use Rattle.std.proofs.Common.{sym, ◌∙◌, arith, ap}
use Rattle.std.specs.Prelude.{Some}
use Rattle.xw_files.specs.Part.{is_circled_open}
use Rattle.xw_files.proofs.CellLemmas.{find-some, find-more, find-end}
use Rattle.xw_files.proofs.text.judging.circled.Goals as goal

pub returns-then-is_circled : goal.returns-then-is_circled
returns-then-is_circled c = ap (λ cell. Some cell) c.cell_at-cell.ensures.cell ∙ sym (find-some (is_circled_open c.args.grid.now c.args.circles.now) c.args.grid.now c.loop-index.index (omega arith) (ap (is_circled_open c.args.grid.now c.args.circles.now) (sym c.cell_at-cell.ensures.cell) ∙ sym c.is_circled.ensures ∙ c.if-is_circled.true)) ∙ c.loop-index.invariant

pub loop-index-preserved : goal.loop-index-preserved
loop-index-preserved c = sym (find-more (is_circled_open c.args.grid.now c.args.circles.now) c.args.grid.now c.loop-index.index (omega arith) (ap (is_circled_open c.args.grid.now c.args.circles.now) (sym c.cell_at-cell.ensures.cell) ∙ sym c.is_circled.ensures ∙ c.if-is_circled.false)) ∙ c.loop-index.invariant

pub returns : goal.returns
returns c = sym (find-end (is_circled_open c.args.grid.now c.args.circles.now) c.args.grid.now c.loop-index.index (omega arith)) ∙ c.loop-index.invariant
