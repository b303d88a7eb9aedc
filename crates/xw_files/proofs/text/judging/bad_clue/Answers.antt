use Rattle.std.proofs.Common.{ℕ, ◌+◌, Some, sym, ap, ◌∙◌}
use Rattle.xw_files.proofs.TextLemmas.ClueIndex.{index_found, index_goes_on, no_index}
use Rattle.xw_files.proofs.text.judging.bad_clue.Goals as goal

pub returns-then-has_bad_clue-clause-index : goal.returns-then-has_bad_clue-clause-index
returns-then-has_bad_clue-clause-index c =
    ap (λ (n : ℕ). Some (c.loop-index.before + n)) c.index_at.ensures.index
    ∙ index_found c.args.grid.now c.args.clues.now c.args.direction _ _ _ _ c.size-index-end.ensures.size c.loop-index-test.true c.cell_at-cell.ensures.cell (sym c.if-has_bad_clue.ensures) c.loop-index.invariant

pub loop-index-preserved : goal.loop-index-preserved
loop-index-preserved c =
    index_goes_on c.args.grid.now c.args.clues.now c.args.direction _ _ _ _ _ c.size-index-end.ensures.size c.loop-index-test.true c.cell_at-cell.ensures.cell (sym c.if-has_bad_clue.ensures) c.light_count-before.ensures.count c.light_count-before.ensures.few c.loop-index.invariant

pub returns-clause-index : goal.returns-clause-index
returns-clause-index c = no_index c.args.grid.now c.args.clues.now c.args.direction _ _ _ c.size-index-end.ensures.size c.loop-index-test.false c.loop-index.invariant
