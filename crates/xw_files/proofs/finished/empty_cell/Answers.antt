use Rattle.std.proofs.Common.{sym, ◌∙◌, arith, ap}
use Rattle.std.specs.Prelude.{Some}
use Rattle.xw_files.proofs.CellLemmas.{find-some, find-more, find-end}
use Rattle.xw_files.specs.Finished.{is_empty_cell}
use Rattle.xw_files.proofs.finished.empty_cell.Goals as goal

pub returns-then-is_empty : goal.returns-then-is_empty
returns-then-is_empty c = ap (λ cell. Some cell) c.cell_at-cell.ensures.cell ∙ sym (find-some (is_empty_cell c.args.grid.now) c.args.grid.now c.loop-index.index (omega arith) (ap (is_empty_cell c.args.grid.now) (sym c.cell_at-cell.ensures.cell) ∙ sym c.is_empty.ensures ∙ c.if-is_empty.true)) ∙ c.loop-index.invariant

pub loop-index-preserved : goal.loop-index-preserved
loop-index-preserved c = sym (find-more (is_empty_cell c.args.grid.now) c.args.grid.now c.loop-index.index (omega arith) (ap (is_empty_cell c.args.grid.now) (sym c.cell_at-cell.ensures.cell) ∙ sym c.is_empty.ensures ∙ c.if-is_empty.false)) ∙ c.loop-index.invariant

pub returns : goal.returns
returns c = sym (find-end (is_empty_cell c.args.grid.now) c.args.grid.now c.loop-index.index (omega arith)) ∙ c.loop-index.invariant
