use Rattle.std.proofs.Common.{◌<◌, ◌∙◌, ℕ, List, length, arith}
use Rattle.std.proofs.lemmas.Result.{err_from_is_err_and}
use Rattle.xw_words.specs.Dictionary.{Entry, known_words, no_entry}
use Rattle.xw_answers.specs.Record.{command_lines, regrade_commands}
use Rattle.xw_answers.proofs.Recording.{lines_of_each, sent_as, stops_as}
use Rattle.xw_lines.proofs.SendsLemmas.{each_sent, each_stops, each_all}
use Rattle.xw_answers.proofs.record.write_regraded.Goals as goal

pub loop-index-preserved : goal.loop-index-preserved
loop-index-preserved g c =
    let entries = known_words c.args.bank.now.words c.args.count in
    let text : Entry → List ℕ = λ entry. command_lines (regrade_commands entry) in
    let within : c.loop-index.index < length entries = omega (arith, c.loop-index-test.true, c.known-index-end.ensures) in
    let wrote = c.in_ok-write_regraded_at.ensures in
    record {
      transcript = each_sent g.W.Sink.transcript g.W.Sink.failures text entries c.args.sink.now c.loop-index.sink c.write_regraded_at.new.sink c.loop-index.index no_entry within c.loop-index.invariant.transcript wrote.0;
      quiet = wrote.1 ∙ c.loop-index.invariant.quiet;
    }

pub returns-in_err-write_regraded_at : goal.returns-in_err-write_regraded_at
returns-in_err-write_regraded_at g c =
    let e = err_from_is_err_and c.from_residual.result c.from_residual.ensures.1 in
    let entries = known_words c.args.bank.now.words c.args.count in
    let text : Entry → List ℕ = λ entry. command_lines (regrade_commands entry) in
    let within : c.loop-index.index < length entries = omega (arith, c.loop-index-test.true, c.known-index-end.ensures) in
    rw e.1 (stops_as g.W.Sink.transcript g.W.Sink.failures _ _ _ _ (lines_of_each regrade_commands entries)
    (each_stops g.W.Sink.transcript g.W.Sink.failures text entries c.args.sink.now c.loop-index.sink c.write_regraded_at.new.sink c.loop-index.index no_entry within (c.loop-index.invariant.transcript, c.loop-index.invariant.quiet) c.in_err-write_regraded_at.ensures))

pub returns : goal.returns
returns g c =
    let entries = known_words c.args.bank.now.words c.args.count in
    let text : Entry → List ℕ = λ entry. command_lines (regrade_commands entry) in
    sent_as g.W.Sink.transcript g.W.Sink.failures _ _ _ _ (lines_of_each regrade_commands entries)
    (each_all g.W.Sink.transcript g.W.Sink.failures text entries _ _ c.loop-index.index (omega (arith, c.loop-index-test.false, c.known-index-end.ensures)) (c.loop-index.invariant.transcript, c.loop-index.invariant.quiet))
