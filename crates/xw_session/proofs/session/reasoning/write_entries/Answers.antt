use Rattle.std.proofs.Common.{◌≡◌, ℕ, ◌<◌, ◌≤◌, ◌*◌, ◌++◌, Option, List, ◌∙◌, ap, subst, refl, sym, append-nil, arith}
use Rattle.std.proofs.lemmas.Result.{err_from_is_err_and}
use Rattle.xw_grid.specs.declared.cell.Cell.{Cell}
use Rattle.xw_grid.specs.Grid.{cell_at}
use Rattle.xw_lines.specs.Device.{Begins, HasFailed}
use Rattle.xw_answers.specs.Text.{entry_line}
use Rattle.xw_session.specs.Why.{entry_told}
use Rattle.xw_answers.proofs.Sending.{one_more_sent, stops_at, all_sent}
use Rattle.xw_session.proofs.session.reasoning.write_entries.Goals as goal

pub loop-index-init : goal.loop-index-init
loop-index-init g c = record { transcript = sym (append-nil (g.W.Sink.transcript c.args.sink.now)); quiet = refl }

pub returns-in_err-write_entry : goal.returns-in_err-write_entry
returns-in_err-write_entry g c =
    let e = err_from_is_err_and c.from_residual.result c.from_residual.ensures.1 in
    let size = c.args.grid.now.width * c.args.grid.now.height in
    let inside : c.loop-index.index < size = omega (arith, c.loop-index-test.true, c.size-index-end.ensures.size) in
    let line : entry_line c.cell_at.result c.entry_at.result ≡ entry_told c.args.grid.now c.args.entries.now c.loop-index.index =
    ap (λ (cell : Cell). entry_line cell c.entry_at.result) c.cell_at.ensures.cell ∙ ap (λ (entry : Option ℕ). entry_line (cell_at c.args.grid.now c.loop-index.index) entry) c.entry_at.ensures in
    let stops = subst (λ (text : List ℕ). Begins (g.W.Sink.transcript c.loop-index.sink) (g.W.Sink.transcript c.write_entry.new.sink) text × HasFailed (g.W.Sink.failures c.loop-index.sink) (g.W.Sink.failures c.write_entry.new.sink)) line c.in_err-write_entry.ensures in
    rw e.1 (stops_at g.W.Sink.transcript g.W.Sink.failures (entry_told c.args.grid.now c.args.entries.now) size _ _ _ c.loop-index.index inside (c.loop-index.invariant.transcript, c.loop-index.invariant.quiet) stops)

pub loop-index-preserved : goal.loop-index-preserved
loop-index-preserved g c =
    let size = c.args.grid.now.width * c.args.grid.now.height in
    let inside : c.loop-index.index < size = omega (arith, c.loop-index-test.true, c.size-index-end.ensures.size) in
    let line : entry_line c.cell_at.result c.entry_at.result ≡ entry_told c.args.grid.now c.args.entries.now c.loop-index.index =
    ap (λ (cell : Cell). entry_line cell c.entry_at.result) c.cell_at.ensures.cell ∙ ap (λ (entry : Option ℕ). entry_line (cell_at c.args.grid.now c.loop-index.index) entry) c.entry_at.ensures in
    let wrote = c.in_ok-write_entry.ensures in
    record {
      transcript = one_more_sent g.W.Sink.transcript g.W.Sink.failures (entry_told c.args.grid.now c.args.entries.now) size _ _ _ c.loop-index.index inside c.loop-index.invariant.transcript (wrote.0 ∙ ap (λ (text : List ℕ). g.W.Sink.transcript c.loop-index.sink ++ text) line);
      quiet = wrote.1 ∙ c.loop-index.invariant.quiet;
    }

pub returns : goal.returns
returns g c =
    let size = c.args.grid.now.width * c.args.grid.now.height in
    let past : size ≤ c.loop-index.index = omega (arith, c.loop-index-test.false, c.size-index-end.ensures.size) in
    all_sent g.W.Sink.transcript g.W.Sink.failures (entry_told c.args.grid.now c.args.entries.now) size _ _ c.loop-index.index past (c.loop-index.invariant.transcript, c.loop-index.invariant.quiet)
