use Rattle.std.proofs.Common.{List, sym, ap}
use Rattle.std.proofs.lemmas.Result.{err_from_is_err_and}
use Rattle.xw_grid.specs.declared.cell.Cell.{Cell}
use Rattle.xw_files.specs.Text.Shape.{clues_at}
use Rattle.xw_files.proofs.TextLemmas.Lookups.{starts_are}
use Rattle.xw_files.proofs.TextLemmas.Clues.{clue_goes_on, clue_passed, clue_missing, clue_too_many, clues_done}
use Rattle.xw_files.proofs.text.reading.add_clues.Goals as goal
use Rattle.xw_files.proofs.text.reading.add_clues.Goals.{then-begins+in_ok-add_clue, else-begins}

pub loop-index-init : goal.loop-index-init
loop-index-init c = ap (λ (starts : List Cell). clues_at c.args.fault c.args.direction starts c.args.clues.now c.args.lines.now) (sym (starts_are c.args.grid.now c.args.direction))

pub returns-in_err-add_clue : goal.returns-in_err-add_clue
returns-in_err-add_clue c =
    let p = err_from_is_err_and c.from_residual.result c.from_residual.ensures.1 in
    rw (p.1, p.2) (λ other. clue_missing _ _ _ c.args.grid.now _ _ _ _ _ _ c.size-index-end.ensures.size c.loop-index-test.true c.cell_at-cell.ensures.cell (sym c.if-begins.ensures) (c.in_err-add_clue.ensures other) c.loop-index.invariant)

pub loop-index-preserved : goal.loop-index-preserved
loop-index-preserved c =
    elim c.if-begins.branch [
      | then-begins+in_ok-add_clue w ↦
          rw (w.lines-is, w.clues-is) (clue_goes_on _ _ c.args.grid.now _ _ _ _ _ _ _ _ c.size-index-end.ensures.size c.loop-index-test.true c.cell_at-cell.ensures.cell (sym w.if-begins.ensures) w.in_ok-add_clue.ensures c.loop-index.invariant)
      | else-begins w ↦
          rw (w.lines-is, w.clues-is) (clue_passed _ _ c.args.grid.now _ _ _ _ _ _ c.size-index-end.ensures.size c.loop-index-test.true c.cell_at-cell.ensures.cell (sym w.if-begins.ensures) c.loop-index.invariant)
    ]

pub returns-in-Some : goal.returns-in-Some
returns-in-Some c other = clue_too_many _ _ c.args.grid.now _ _ _ _ _ _ _ c.size-index-end.ensures.size c.loop-index-test.false c.in-Some.ensures c.loop-index.invariant

pub returns-in-None : goal.returns-in-None
returns-in-None c = clues_done _ _ c.args.grid.now _ _ _ _ _ _ c.size-index-end.ensures.size c.loop-index-test.false c.in-None.ensures c.loop-index.invariant
