use Rattle.std.proofs.Common.{◌≡◌, ◌+◌, ◌*◌, ◌<◌, ◌≤◌, length, get_or, ap, sym, ◌∙◌, arith}
use Rattle.std.specs.List.{count_by}
use Rattle.std.proofs.lemmas.List.{take_all}
use Rattle.std.proofs.lemmas.List.Sums.{count_by_more_yes, count_by_more_no}
use Rattle.xw_grid.specs.Grid.{cells}
use Rattle.xw_grid.proofs.GridLemmas.{length-cells}
use Rattle.xw_answers.specs.Stats.{is_counted}
use Rattle.xw_answers.proofs.LightTexts.{cell_in_order}
use Rattle.xw_answers.proofs.stats.count.Goals as goal
use Rattle.xw_answers.proofs.stats.count.Goals.{then-is_counted, else-is_counted}

pub loop-index-preserved : goal.loop-index-preserved
loop-index-preserved c =
    let grid = c.args.grid.now in
    let index = c.loop-index.index in
    let cell = c.cell_at.result in
    let below : index < grid.width * grid.height = omega (arith, c.loop-index-test.true, c.size-index-end.ensures.size) in
    let within : index < length (cells grid) = omega (arith, below, length-cells grid) in
    let at : get_or (cells grid) index cell ≡ cell = cell_in_order grid index cell below ∙ sym c.cell_at.ensures.cell in
    let judged : is_counted grid c.args.tally (get_or (cells grid) index cell) ≡ c.is_counted.result = ap (is_counted grid c.args.tally) at ∙ sym c.is_counted.ensures in
    elim c.if-is_counted.branch [
      | then-is_counted w ↦ w.count-is ∙ ap (λ n. n + 1) c.loop-index.invariant ∙ sym (count_by_more_yes (is_counted grid c.args.tally) (cells grid) index cell within (judged ∙ w.if-is_counted.true))
      | else-is_counted w ↦ w.count-is ∙ c.loop-index.invariant ∙ sym (count_by_more_no (is_counted grid c.args.tally) (cells grid) index cell within (judged ∙ w.if-is_counted.false))
    ]

pub returns-clause-count : goal.returns-clause-count
returns-clause-count c =
    let grid = c.args.grid.now in
    let past : length (cells grid) ≤ c.loop-index.index = omega (arith, c.loop-index-test.false, length-cells grid, c.size-index-end.ensures.size) in
    c.loop-index.invariant ∙ ap (count_by (is_counted grid c.args.tally)) (take_all _ _ past)
