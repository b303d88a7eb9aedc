use Rattle.std.proofs.Common.{sym, ◌∙◌, arith}
use Rattle.xw_files.proofs.PuzLemmas.Refused.{cell-passed, cell-stopped, cells-passed}
use Rattle.xw_files.proofs.puz.refusal.clue_with_nul.Goals as goal

pub returns-in-Err : goal.returns-in-Err
returns-in-Err c =
    sym (cell-stopped c.args.grid.now c.args.clues.now c.loop-index.number c.loop-index.index c.cell_at.result c.in-Err.text (omega arith) c.cell_at.ensures.cell c.in-Err.ensures.stopped) ∙ c.loop-index.invariant.0

pub loop-index-preserved : goal.loop-index-preserved
loop-index-preserved c = (
  sym (cell-passed c.args.grid.now c.args.clues.now c.loop-index.number c.in-Ok.next c.loop-index.index c.cell_at.result (omega arith) c.cell_at.ensures.cell c.in-Ok.ensures.passed) ∙ c.loop-index.invariant.0,
  omega (arith, c.in-Ok.ensures.small, c.loop-index.invariant.1),
)

pub returns : goal.returns
returns c = sym (cells-passed c.args.grid.now c.args.clues.now c.loop-index.number c.loop-index.index (omega arith)) ∙ c.loop-index.invariant.0
