use Rattle.std.proofs.Common.{sym, ◌∙◌, arith, ap}
use Rattle.xw_files.proofs.CellLemmas.{any-true, any-more, any-end}
use Rattle.xw_files.specs.Finished.{is_barred_cell}
use Rattle.xw_files.proofs.finished.has_bar.Goals as goal

pub returns-then-is_barred : goal.returns-then-is_barred
returns-then-is_barred c = sym (any-true (is_barred_cell c.args.grid.now) c.args.grid.now c.loop-index.index (omega arith) (ap (is_barred_cell c.args.grid.now) (sym c.cell_at.ensures.cell) ∙ sym c.is_barred.ensures ∙ c.if-is_barred.true)) ∙ c.loop-index.invariant

pub loop-index-preserved : goal.loop-index-preserved
loop-index-preserved c = sym (any-more (is_barred_cell c.args.grid.now) c.args.grid.now c.loop-index.index (omega arith) (ap (is_barred_cell c.args.grid.now) (sym c.cell_at.ensures.cell) ∙ sym c.is_barred.ensures ∙ c.if-is_barred.false)) ∙ c.loop-index.invariant

pub returns : goal.returns
returns c = sym (any-end (is_barred_cell c.args.grid.now) c.args.grid.now c.loop-index.index (omega arith)) ∙ c.loop-index.invariant
