use Rattle.std.proofs.Common.{◌<◌, ◌≤◌, ◌+◌, ℕ, List, [], length, arith}
use Rattle.std.specs.List.{range_with_len}
use Rattle.std.proofs.lemmas.Result.{err_from_is_err_and}
use Rattle.std.proofs.lemmas.List.FromFn.{length-range_with_len}
use Rattle.xw_answers.specs.Show.{row_lines}
use Rattle.xw_answers.proofs.Sending.{number_at}
use Rattle.xw_answers.proofs.Gathering.{gathers-nothing, item_gathered, item_stops, items_end}
use Rattle.xw_answers.proofs.show.write_grid.Goals as goal

pub loop-above-init : goal.loop-above-init
loop-above-init g c = rw c.new-lines.ensures (gathers-nothing g.W.Sink.transcript g.W.Sink.failures (Unit {0}) c.args.sink.now [])

pub loop-above-preserved : goal.loop-above-preserved
loop-above-preserved g c =
    let height = c.args.grid.now.height in
    let above = c.loop-above.above in
    let text : ℕ → List ℕ = λ k. row_lines c.args.grid.now (k + 1) in
    let inside : above < height = omega arith in
    let within : above < length (range_with_len 0 height) = rw length-range_with_len inside in
    item_gathered g.W.Sink.transcript g.W.Sink.failures text (range_with_len 0 height) above above within (number_at height above above inside)
    c.args.sink.now c.loop-above.sink c.put_row_lines.new.sink [] c.loop-above.lines c.put_row_lines.new.line c.loop-above.invariant c.in_ok-put_row_lines.ensures

pub returns-in_err-put_row_lines : goal.returns-in_err-put_row_lines
returns-in_err-put_row_lines g c =
    let e = err_from_is_err_and c.from_residual.result c.from_residual.ensures.1 in
    let height = c.args.grid.now.height in
    let above = c.loop-above.above in
    let text : ℕ → List ℕ = λ k. row_lines c.args.grid.now (k + 1) in
    let inside : above < height = omega arith in
    let within : above < length (range_with_len 0 height) = rw length-range_with_len inside in
    rw e.1 (item_stops g.W.Sink.transcript g.W.Sink.failures text (range_with_len 0 height) above above within (number_at height above above inside)
    c.args.sink.now c.loop-above.sink c.put_row_lines.new.sink c.loop-above.lines c.loop-above.invariant c.in_err-put_row_lines.ensures)

pub returns : goal.returns
returns g c =
    let height = c.args.grid.now.height in
    let text : ℕ → List ℕ = λ k. row_lines c.args.grid.now (k + 1) in
    let past : height ≤ c.loop-above.above = omega arith in
    items_end g.W.Sink.transcript g.W.Sink.failures text (range_with_len 0 height) c.args.sink.now c.loop-above.sink c.send.new.sink c.loop-above.lines c.loop-above.above c.send.result (rw length-range_with_len past) c.loop-above.invariant c.send.ensures.sends
