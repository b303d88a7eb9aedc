use Rattle.std.proofs.Common.{List, ◌∙◌, ap, arith, length, sym}
use Rattle.xw_grid.specs.declared.cell.Cell.{Cell}
use Rattle.xw_files.proofs.TextLemmas.Lookups.{starts_are}
use Rattle.xw_files.proofs.TextLemmas.Clues.{start_here, no_start, no_more_starts}
use Rattle.xw_files.proofs.text.location.light_count.Goals as goal
use Rattle.xw_files.proofs.text.location.light_count.Goals.{then-begins, else-begins}

pub loop-index-init : goal.loop-index-init
loop-index-init c = record {
  few = omega arith;
  counted = omega (arith, ap (λ (starts : List Cell). length starts) (starts_are c.args.grid.now c.args.direction));
}

pub loop-index-preserved : goal.loop-index-preserved
loop-index-preserved c =
    elim c.if-begins.branch [
      | then-begins w ↦
          let here = ap (λ (starts : List Cell). length starts) (start_here c.args.grid.now c.args.direction _ c.loop-index.index _ c.size-index-end.ensures.size c.loop-index-test.true c.cell_at.ensures.cell (sym c.begins.ensures ∙ w.if-begins.true)) in
          record {
            few = omega (arith, w.count-is, c.loop-index.invariant.few);
            counted = omega (arith, w.count-is, here, c.loop-index.invariant.counted);
          }
      | else-begins w ↦
          let here = ap (λ (starts : List Cell). length starts) (no_start c.args.grid.now c.args.direction _ c.loop-index.index _ c.size-index-end.ensures.size c.loop-index-test.true c.cell_at.ensures.cell (sym c.begins.ensures ∙ w.if-begins.false)) in
          record {
            few = omega (arith, w.count-is, c.loop-index.invariant.few);
            counted = omega (arith, w.count-is, here, c.loop-index.invariant.counted);
          }
    ]

pub returns : goal.returns
returns c =
    let none = ap (λ (starts : List Cell). length starts) (no_more_starts c.args.grid.now c.args.direction _ c.loop-index.index c.size-index-end.ensures.size (omega arith)) in
    omega (arith, none, c.loop-index.invariant.counted)
