use Rattle.std.proofs.Common.{◌≡◌, ◌<◌, ◌*◌, length, get_or, ap, sym, ◌∙◌, subst, ◌++◌, arith}
use Rattle.std.proofs.lemmas.Result.{err_from_is_err_and}
use Rattle.xw_grid.specs.declared.cell.Cell.{Cell}
use Rattle.xw_grid.specs.Grid.{cells}
use Rattle.xw_grid.proofs.GridLemmas.{length-cells}
use Rattle.xw_lines.specs.Device.{Begins, HasFailed}
use Rattle.xw_answers.specs.Text.{circle_line}
use Rattle.xw_answers.proofs.LightTexts.{cell_in_order}
use Rattle.xw_lines.proofs.SendsLemmas.{each_sent, each_stops, each_all}
use Rattle.xw_answers.proofs.lists.write_circles.Goals as goal

pub loop-index-preserved : goal.loop-index-preserved
loop-index-preserved g c =
    let grid = c.args.grid.now in
    let below : c.loop-index.index < grid.width * grid.height = omega (arith, c.loop-index-test.true, c.size-index-end.ensures.size) in
    let is : c.cell_at.result ≡ get_or (cells grid) c.loop-index.index c.cell_at.result = c.cell_at.ensures.cell ∙ sym (cell_in_order grid c.loop-index.index c.cell_at.result below) in
    let within : c.loop-index.index < length (cells grid) = omega (arith, below, length-cells grid) in
    let wrote = c.in_ok-write_circle.ensures in
    record {
      transcript = each_sent g.W.Sink.transcript g.W.Sink.failures (circle_line grid c.args.circles.now) (cells grid) c.args.sink.now c.loop-index.sink c.write_circle.new.sink c.loop-index.index c.cell_at.result within c.loop-index.invariant.transcript (wrote.0 ∙ ap (λ (cell : Cell). g.W.Sink.transcript c.loop-index.sink ++ circle_line grid c.args.circles.now cell) is);
      quiet = wrote.1 ∙ c.loop-index.invariant.quiet;
    }

pub returns-in_err-write_circle : goal.returns-in_err-write_circle
returns-in_err-write_circle g c =
    let e = err_from_is_err_and c.from_residual.result c.from_residual.ensures.1 in
    let grid = c.args.grid.now in
    let below : c.loop-index.index < grid.width * grid.height = omega (arith, c.loop-index-test.true, c.size-index-end.ensures.size) in
    let is : c.cell_at.result ≡ get_or (cells grid) c.loop-index.index c.cell_at.result = c.cell_at.ensures.cell ∙ sym (cell_in_order grid c.loop-index.index c.cell_at.result below) in
    let within : c.loop-index.index < length (cells grid) = omega (arith, below, length-cells grid) in
    let stops = subst (λ (cell : Cell). Begins (g.W.Sink.transcript c.loop-index.sink) (g.W.Sink.transcript c.write_circle.new.sink) (circle_line grid c.args.circles.now cell) × HasFailed (g.W.Sink.failures c.loop-index.sink) (g.W.Sink.failures c.write_circle.new.sink)) is c.in_err-write_circle.ensures in
    rw e.1 (each_stops g.W.Sink.transcript g.W.Sink.failures (circle_line grid c.args.circles.now) (cells grid) c.args.sink.now c.loop-index.sink c.write_circle.new.sink c.loop-index.index c.cell_at.result within (c.loop-index.invariant.transcript, c.loop-index.invariant.quiet) stops)

pub returns : goal.returns
returns g c = each_all g.W.Sink.transcript g.W.Sink.failures (circle_line c.args.grid.now c.args.circles.now) (cells c.args.grid.now) _ _ c.loop-index.index (omega (arith, c.loop-index-test.false, length-cells c.args.grid.now, c.size-index-end.ensures.size)) (c.loop-index.invariant.transcript, c.loop-index.invariant.quiet)
