use Rattle.std.proofs.Common.{◌<◌, ◌≤◌, ◌∙◌, ℕ, List, arith}
use Rattle.std.specs.List.{range_with_len}
use Rattle.std.proofs.lemmas.Result.{err_from_is_err_and}
use Rattle.xw_answers.specs.Record.{command_lines, length_commands}
use Rattle.xw_answers.proofs.Recording.{lines_of_each, sent_as, stops_as}
use Rattle.xw_answers.proofs.Sending.{one_more_sent, stops_at, all_sent}
use Rattle.xw_answers.proofs.record.write_rows.Goals as goal

pub returns-in_err-write_row : goal.returns-in_err-write_row
returns-in_err-write_row g c =
    let e = err_from_is_err_and c.from_residual.result c.from_residual.ensures.1 in
    let text : ℕ → List ℕ = λ count. command_lines (length_commands c.args.begun.now c.args.bank.now.words count) in
    let inside : c.loop-count.count < 256 = omega arith in
    rw e.1 (stops_as g.W.Sink.transcript g.W.Sink.failures _ _ _ _ (lines_of_each (length_commands c.args.begun.now c.args.bank.now.words) (range_with_len 0 256))
    (stops_at g.W.Sink.transcript g.W.Sink.failures text 256 _ _ _ c.loop-count.count inside (c.loop-count.invariant.transcript, c.loop-count.invariant.quiet) c.in_err-write_row.ensures))

pub loop-count-preserved : goal.loop-count-preserved
loop-count-preserved g c =
    let text : ℕ → List ℕ = λ count. command_lines (length_commands c.args.begun.now c.args.bank.now.words count) in
    let inside : c.loop-count.count < 256 = omega arith in
    record {
      transcript = one_more_sent g.W.Sink.transcript g.W.Sink.failures text 256 _ _ _ c.loop-count.count inside c.loop-count.invariant.transcript c.in_ok-write_row.ensures.0;
      quiet = c.in_ok-write_row.ensures.1 ∙ c.loop-count.invariant.quiet;
    }

pub returns : goal.returns
returns g c =
    let text : ℕ → List ℕ = λ count. command_lines (length_commands c.args.begun.now c.args.bank.now.words count) in
    let past : 256 ≤ c.loop-count.count = omega arith in
    sent_as g.W.Sink.transcript g.W.Sink.failures _ _ _ _ (lines_of_each (length_commands c.args.begun.now c.args.bank.now.words) (range_with_len 0 256))
    (all_sent g.W.Sink.transcript g.W.Sink.failures text 256 _ _ c.loop-count.count past (c.loop-count.invariant.transcript, c.loop-count.invariant.quiet))
