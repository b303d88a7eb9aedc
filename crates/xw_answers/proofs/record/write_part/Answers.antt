use Rattle.std.proofs.Common.{◌≡◌, ◌<◌, ◌*◌, ℕ, List, length, get_or, ap, sym, ◌∙◌, ◌++◌, arith}
use Rattle.std.proofs.lemmas.Result.{err_from_is_err_and}
use Rattle.xw_grid.specs.declared.cell.Cell.{Cell}
use Rattle.xw_grid.specs.Grid.{cells}
use Rattle.xw_grid.proofs.GridLemmas.{length-cells}
use Rattle.xw_answers.specs.Record.{command_lines, cell_commands}
use Rattle.xw_answers.proofs.LightTexts.{cell_in_order}
use Rattle.xw_answers.proofs.Recording.{lines_of_each, sent_as, stops_as}
use Rattle.xw_lines.proofs.SendsLemmas.{each_sent, each_stops, each_all}
use Rattle.xw_answers.proofs.record.write_part.Goals as goal

pub loop-index-preserved : goal.loop-index-preserved
loop-index-preserved g c =
    let grid = c.args.grid.now in
    let text : Cell → List ℕ = λ cell. command_lines (cell_commands grid c.args.clues.now c.args.circles.now c.args.part cell) in
    let below : c.loop-index.index < grid.width * grid.height = omega (arith, c.loop-index-test.true, c.size-index-end.ensures.size) in
    let is : c.cell_at.result ≡ get_or (cells grid) c.loop-index.index c.cell_at.result = c.cell_at.ensures.cell ∙ sym (cell_in_order grid c.loop-index.index c.cell_at.result below) in
    let within : c.loop-index.index < length (cells grid) = omega (arith, below, length-cells grid) in
    let wrote = c.in_ok-write_kept.ensures in
    record {
      transcript = each_sent g.W.Sink.transcript g.W.Sink.failures text (cells grid) c.args.sink.now c.loop-index.sink c.write_kept.new.sink c.loop-index.index c.cell_at.result within c.loop-index.invariant.transcript (wrote.0 ∙ ap (λ (cell : Cell). g.W.Sink.transcript c.loop-index.sink ++ text cell) is);
      quiet = wrote.1 ∙ c.loop-index.invariant.quiet;
    }

pub returns-in_err-write_kept : goal.returns-in_err-write_kept
returns-in_err-write_kept g c =
    let e = err_from_is_err_and c.from_residual.result c.from_residual.ensures.1 in
    let grid = c.args.grid.now in
    let text : Cell → List ℕ = λ cell. command_lines (cell_commands grid c.args.clues.now c.args.circles.now c.args.part cell) in
    let below : c.loop-index.index < grid.width * grid.height = omega (arith, c.loop-index-test.true, c.size-index-end.ensures.size) in
    let is : c.cell_at.result ≡ get_or (cells grid) c.loop-index.index c.cell_at.result = c.cell_at.ensures.cell ∙ sym (cell_in_order grid c.loop-index.index c.cell_at.result below) in
    let within : c.loop-index.index < length (cells grid) = omega (arith, below, length-cells grid) in
    let stops = stops_as g.W.Sink.transcript g.W.Sink.failures _ _ _ _ (ap text is) c.in_err-write_kept.ensures in
    rw e.1 (stops_as g.W.Sink.transcript g.W.Sink.failures _ _ _ _ (lines_of_each (cell_commands grid c.args.clues.now c.args.circles.now c.args.part) (cells grid))
    (each_stops g.W.Sink.transcript g.W.Sink.failures text (cells grid) c.args.sink.now c.loop-index.sink c.write_kept.new.sink c.loop-index.index c.cell_at.result within (c.loop-index.invariant.transcript, c.loop-index.invariant.quiet) stops))

pub returns : goal.returns
returns g c =
    let grid = c.args.grid.now in
    let text : Cell → List ℕ = λ cell. command_lines (cell_commands grid c.args.clues.now c.args.circles.now c.args.part cell) in
    sent_as g.W.Sink.transcript g.W.Sink.failures _ _ _ _ (lines_of_each (cell_commands grid c.args.clues.now c.args.circles.now c.args.part) (cells grid))
    (each_all g.W.Sink.transcript g.W.Sink.failures text (cells grid) _ _ c.loop-index.index (omega (arith, c.loop-index-test.false, length-cells grid, c.size-index-end.ensures.size)) (c.loop-index.invariant.transcript, c.loop-index.invariant.quiet))
