use Rattle.std.proofs.Common.{Bool, true, List, ℕ, [], ◌++◌, ◌≡◌, if◌then◌else◌, subst, sym, ◌∙◌}
use Rattle.std.proofs.lemmas.Result.{err_from_is_err_and}
use Rattle.xw_lines.specs.Sends.{Gathers}
use Rattle.xw_answers.specs.Show.{row_line, bar_line, has_bar_below}
use Rattle.xw_answers.proofs.Gathering.{gathers-then, gathers-stops}
use Rattle.xw_answers.proofs.show.put_row_lines.Goals as goal

pub returns-in_err-put_cells : goal.returns-in_err-put_cells
returns-in_err-put_cells g c =
    let e = err_from_is_err_and c.from_residual.result c.from_residual.ensures.1 in
    rw e.1 (gathers-stops g.W.Sink.transcript g.W.Sink.failures c.args.sink.now c.put_cells.new.sink c.args.line.now (row_line c.args.grid.now c.args.row) _ c.in_err-put_cells.ensures)

pub returns-then-has_bar_below : goal.returns-then-has_bar_below
returns-then-has_bar_below g c =
    let text : Bool → List ℕ = λ barred. row_line c.args.grid.now c.args.row ++ (if barred then bar_line c.args.grid.now c.args.row else []) in
    let barred : true ≡ has_bar_below c.args.grid.now c.args.row = sym c.if-has_bar_below.true ∙ c.has_bar_below.ensures in
    subst (λ b. Gathers g.W.Sink.transcript g.W.Sink.failures c.args.sink.now c.put_bars.new.sink c.args.line.now c.put_bars.new.line c.put_bars.result (text b)) barred
    (gathers-then g.W.Sink.transcript g.W.Sink.failures (Unit {0}) c.args.sink.now c.put_cells.new.sink c.put_bars.new.sink c.args.line.now c.put_cells.new.line c.put_bars.new.line
    (row_line c.args.grid.now c.args.row) (bar_line c.args.grid.now c.args.row) c.put_bars.result c.in_ok-put_cells.ensures c.put_bars.ensures)
