use Rattle.std.proofs.Common.{List, ℕ, ◌++◌, sym, ap, ◌∙◌}
use Rattle.xw_grid.specs.declared.cell.Cell.{Cell}
use Rattle.xw_files.specs.Text.Written.{line}
use Rattle.xw_files.proofs.TextLemmas.Lookups.{starts_are}
use Rattle.xw_files.proofs.TextLemmas.Writes.{clues_after, clues_go_on, clues_passed, clues_end}
use Rattle.xw_files.proofs.text.writing.put_clues.Goals as goal
use Rattle.xw_files.proofs.text.writing.put_clues.Goals.{then-begins+in_ok-put_line, else-begins}

pub loop-index-init : goal.loop-index-init
loop-index-init c = ap (λ (starts : List Cell). c.args.out.now.items ++ clues_after c.args.clues.now c.args.direction starts) (sym (starts_are c.args.grid.now c.args.direction))

pub loop-index-preserved : goal.loop-index-preserved
loop-index-preserved c =
    elim c.if-begins.branch [
      | then-begins+in_ok-put_line w ↦
          rw w.out-is (clues_go_on _ _ c.args.grid.now _ _ _ _ _ _ c.size-index-end.ensures.size c.loop-index-test.true c.cell_at-cell.ensures.cell (sym w.if-begins.ensures) (w.in_ok-put_line.ensures ∙ ap (λ (text : List ℕ). c.loop-index.out.items ++ line text) w.get.ensures) c.loop-index.invariant)
      | else-begins w ↦
          rw w.out-is (clues_passed _ _ c.args.grid.now _ _ _ _ _ c.size-index-end.ensures.size c.loop-index-test.true c.cell_at-cell.ensures.cell (sym w.if-begins.ensures) c.loop-index.invariant)
    ]

pub returns : goal.returns
returns c = clues_end _ _ c.args.grid.now _ _ _ _ c.size-index-end.ensures.size c.loop-index-test.false c.loop-index.invariant
