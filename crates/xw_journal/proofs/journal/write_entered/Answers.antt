use Rattle.std.proofs.Common.{◌≡◌, ◌<◌, ◌*◌, ℕ, List, ◌++◌, [], length, get_or, sym, ap, ◌∙◌, arith}
use Rattle.std.specs.Prelude.{if◌then◌else◌}
use Rattle.std.proofs.lemmas.Result.{err_from_is_err_and}
use Rattle.xw_grid.specs.declared.cell.Cell.{Cell}
use Rattle.xw_grid.specs.Grid.{cells, cell_at, entry}
use Rattle.xw_grid.proofs.GridLemmas.{length-cells}
use Rattle.xw_lines.proofs.SendsLemmas.{each_sent, each_stops, each_all}
use Rattle.xw_answers.specs.Record.{command_lines, letter_commands}
use Rattle.xw_answers.proofs.LightTexts.{cell_in_order}
use Rattle.xw_answers.proofs.Recording.{lines_of_each, sent_as, stops_as}
use Rattle.xw_journal.specs.Journal.{entered_at, is_same_entry}
use Rattle.xw_journal.proofs.Entered.{entry_before}
use Rattle.xw_journal.proofs.journal.write_entered.Goals as goal

pub returns-in_err-write_unless : goal.returns-in_err-write_unless
returns-in_err-write_unless g c =
    let e = err_from_is_err_and c.from_residual.result c.from_residual.ensures.1 in
    let grid = c.args.grid.now in
    let index = c.loop-index.index in
    let below : index < grid.width * grid.height = omega (arith, c.loop-index-test.true, c.size-index-end.ensures.size) in
    let is : c.cell_at-cell.result ≡ get_or (cells grid) index c.cell_at-cell.result = c.cell_at-cell.ensures.cell ∙ sym (cell_in_order grid index c.cell_at-cell.result below) in
    let within : index < length (cells grid) = omega (arith, below, length-cells grid) in
    rw e.1 (λ was before.
    let text : Cell → List ℕ = λ cell. command_lines (entered_at was grid cell) in
    let same = c.has.ensures (entry was (cell_at grid index)) (entry_before was grid c.args.before.now index before below)
    ∙ ap (is_same_entry (entry was (cell_at grid index))) c.entry.ensures.entry ∙ ap (λ cell. is_same_entry (entry was cell) (entry grid c.cell_at-cell.result)) (sym c.cell_at-cell.ensures.cell) in
    let whole : command_lines (if c.has.result then [] else letter_commands c.cell_at-cell.result (entry grid c.cell_at-cell.result)) ≡ text (get_or (cells grid) index c.cell_at-cell.result) =
    ap (λ t. command_lines (if t then [] else letter_commands c.cell_at-cell.result (entry grid c.cell_at-cell.result))) same ∙ ap text is in
    let stops = stops_as g.J.Sink.transcript g.J.Sink.failures _ _ _ _ whole c.in_err-write_unless.ensures in
    stops_as g.J.Sink.transcript g.J.Sink.failures _ _ _ _ (lines_of_each (entered_at was grid) (cells grid))
    (each_stops g.J.Sink.transcript g.J.Sink.failures text (cells grid) c.args.journal.now c.loop-index.journal c.write_unless.new.journal index c.cell_at-cell.result within (c.loop-index.invariant.transcript was before, c.loop-index.invariant.quiet) stops))

pub loop-index-preserved : goal.loop-index-preserved
loop-index-preserved g c =
    let grid = c.args.grid.now in
    let index = c.loop-index.index in
    let below : index < grid.width * grid.height = omega (arith, c.loop-index-test.true, c.size-index-end.ensures.size) in
    let is : c.cell_at-cell.result ≡ get_or (cells grid) index c.cell_at-cell.result = c.cell_at-cell.ensures.cell ∙ sym (cell_in_order grid index c.cell_at-cell.result below) in
    let within : index < length (cells grid) = omega (arith, below, length-cells grid) in
    let wrote = c.in_ok-write_unless.ensures in
    record {
      transcript = λ was before.
          let text : Cell → List ℕ = λ cell. command_lines (entered_at was grid cell) in
          let same = c.has.ensures (entry was (cell_at grid index)) (entry_before was grid c.args.before.now index before below)
          ∙ ap (is_same_entry (entry was (cell_at grid index))) c.entry.ensures.entry ∙ ap (λ cell. is_same_entry (entry was cell) (entry grid c.cell_at-cell.result)) (sym c.cell_at-cell.ensures.cell) in
          let whole : command_lines (if c.has.result then [] else letter_commands c.cell_at-cell.result (entry grid c.cell_at-cell.result)) ≡ text (get_or (cells grid) index c.cell_at-cell.result) =
          ap (λ t. command_lines (if t then [] else letter_commands c.cell_at-cell.result (entry grid c.cell_at-cell.result))) same ∙ ap text is in
          each_sent g.J.Sink.transcript g.J.Sink.failures text (cells grid) c.args.journal.now c.loop-index.journal c.write_unless.new.journal index c.cell_at-cell.result within
          (c.loop-index.invariant.transcript was before) (wrote.0 ∙ ap (λ xs. g.J.Sink.transcript c.loop-index.journal ++ xs) whole);
      quiet = wrote.1 ∙ c.loop-index.invariant.quiet;
    }

pub returns : goal.returns
returns g c =
    let grid = c.args.grid.now in
    λ was before.
    let text : Cell → List ℕ = λ cell. command_lines (entered_at was grid cell) in
    sent_as g.J.Sink.transcript g.J.Sink.failures _ _ _ _ (lines_of_each (entered_at was grid) (cells grid))
    (each_all g.J.Sink.transcript g.J.Sink.failures text (cells grid) _ _ c.loop-index.index (omega (arith, c.loop-index-test.false, length-cells grid, c.size-index-end.ensures.size)) (c.loop-index.invariant.transcript was before, c.loop-index.invariant.quiet))
