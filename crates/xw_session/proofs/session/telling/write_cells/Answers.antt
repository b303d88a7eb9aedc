use Rattle.std.proofs.Common.{◌≡◌, ◌<◌, ◌*◌, length, get_or, ap, sym, ◌∙◌, subst, ◌++◌, arith}
use Rattle.std.proofs.lemmas.Result.{err_from_is_err_and}
use Rattle.xw_grid.specs.declared.cell.Cell.{Cell}
use Rattle.xw_grid.specs.Grid.{Grid, cells, cell_at}
use Rattle.xw_grid.proofs.GridLemmas.{length-cells}
use Rattle.xw_lines.specs.Device.{Begins, HasFailed}
use Rattle.xw_session.specs.Reports.{letters_told}
use Rattle.xw_answers.proofs.LightTexts.{cell_in_order}
use Rattle.xw_lines.proofs.SendsLemmas.{each_sent, each_stops, each_all}
use Rattle.xw_session.proofs.session.telling.write_cells.Goals as goal

pub loop-index-preserved : goal.loop-index-preserved
loop-index-preserved g c =
    let engine = g.E.Feasible.state c.args.engine.now in
    let grid = engine.grid in
    let size = c.size-index-end.ensures.size ∙ ap (λ (grid : Grid). grid.width * grid.height) c.grid-grid.ensures in
    let below : c.loop-index.index < grid.width * grid.height = omega (arith, c.loop-index-test.true, size) in
    let at : c.cell_at.result ≡ cell_at grid c.loop-index.index = c.cell_at.ensures.cell ∙ ap (λ (grid : Grid). cell_at grid c.loop-index.index) c.grid-grid.ensures in
    let is : c.cell_at.result ≡ get_or (cells grid) c.loop-index.index c.cell_at.result = at ∙ sym (cell_in_order grid c.loop-index.index c.cell_at.result below) in
    let within : c.loop-index.index < length (cells grid) = omega (arith, below, length-cells grid) in
    let wrote = c.in_ok-write_cell_letters.ensures in
    record {
      transcript = each_sent g.W.Sink.transcript g.W.Sink.failures (letters_told engine) (cells grid) c.args.sink.now c.loop-index.sink c.write_cell_letters.new.sink c.loop-index.index c.cell_at.result within c.loop-index.invariant.transcript (wrote.0 ∙ ap (λ (cell : Cell). g.W.Sink.transcript c.loop-index.sink ++ letters_told engine cell) is);
      quiet = wrote.1 ∙ c.loop-index.invariant.quiet;
    }

pub returns-in_err-write_cell_letters : goal.returns-in_err-write_cell_letters
returns-in_err-write_cell_letters g c =
    let e = err_from_is_err_and c.from_residual.result c.from_residual.ensures.1 in
    let engine = g.E.Feasible.state c.args.engine.now in
    let grid = engine.grid in
    let size = c.size-index-end.ensures.size ∙ ap (λ (grid : Grid). grid.width * grid.height) c.grid-grid.ensures in
    let below : c.loop-index.index < grid.width * grid.height = omega (arith, c.loop-index-test.true, size) in
    let at : c.cell_at.result ≡ cell_at grid c.loop-index.index = c.cell_at.ensures.cell ∙ ap (λ (grid : Grid). cell_at grid c.loop-index.index) c.grid-grid.ensures in
    let is : c.cell_at.result ≡ get_or (cells grid) c.loop-index.index c.cell_at.result = at ∙ sym (cell_in_order grid c.loop-index.index c.cell_at.result below) in
    let within : c.loop-index.index < length (cells grid) = omega (arith, below, length-cells grid) in
    let stops = subst (λ (cell : Cell). Begins (g.W.Sink.transcript c.loop-index.sink) (g.W.Sink.transcript c.write_cell_letters.new.sink) (letters_told engine cell) × HasFailed (g.W.Sink.failures c.loop-index.sink) (g.W.Sink.failures c.write_cell_letters.new.sink)) is c.in_err-write_cell_letters.ensures in
    rw e.1 (each_stops g.W.Sink.transcript g.W.Sink.failures (letters_told engine) (cells grid) c.args.sink.now c.loop-index.sink c.write_cell_letters.new.sink c.loop-index.index c.cell_at.result within (c.loop-index.invariant.transcript, c.loop-index.invariant.quiet) stops)

pub returns : goal.returns
returns g c =
    let engine = g.E.Feasible.state c.args.engine.now in
    let grid = engine.grid in
    let size = c.size-index-end.ensures.size ∙ ap (λ (grid : Grid). grid.width * grid.height) c.grid-grid.ensures in
    each_all g.W.Sink.transcript g.W.Sink.failures (letters_told engine) (cells grid) _ _ c.loop-index.index (omega (arith, c.loop-index-test.false, length-cells grid, size)) (c.loop-index.invariant.transcript, c.loop-index.invariant.quiet)
