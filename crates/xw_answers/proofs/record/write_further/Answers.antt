use Rattle.std.proofs.Common.{◌<◌, ◌≤◌, ◌∙◌, ℕ, List, arith}
use Rattle.std.specs.List.{range_with_len}
use Rattle.std.proofs.lemmas.Result.{err_from_is_err_and}
use Rattle.xw_answers.specs.Spelling.{command_line}
use Rattle.xw_answers.specs.Record.{more_command, further_pieces}
use Rattle.xw_answers.proofs.Recording.{line_of_each, sent_as, stops_as}
use Rattle.xw_answers.proofs.Sending.{one_more_sent, stops_at, all_sent}
use Rattle.xw_answers.proofs.record.write_further.Goals as goal

pub returns-in_err-write_put : goal.returns-in_err-write_put
returns-in_err-write_put g c =
    let e = err_from_is_err_and c.from_residual.result c.from_residual.ensures.1 in
    let count = further_pieces c.args.text.now in
    let text : ℕ → List ℕ = λ before. command_line (more_command c.args.field c.args.text.now before) in
    let inside : c.loop-before.before < count = omega (arith, c.loop-before-test.true) in
    rw e.1 (stops_as g.W.Sink.transcript g.W.Sink.failures _ _ _ _ (line_of_each (more_command c.args.field c.args.text.now) (range_with_len 0 count))
    (stops_at g.W.Sink.transcript g.W.Sink.failures text count _ _ _ c.loop-before.before inside (c.loop-before.invariant.transcript, c.loop-before.invariant.quiet) (rw (← c.piece.ensures) c.in_err-write_put.ensures)))

pub loop-before-preserved : goal.loop-before-preserved
loop-before-preserved g c =
    let count = further_pieces c.args.text.now in
    let text : ℕ → List ℕ = λ before. command_line (more_command c.args.field c.args.text.now before) in
    let inside : c.loop-before.before < count = omega (arith, c.loop-before-test.true) in
    record {
      transcript = one_more_sent g.W.Sink.transcript g.W.Sink.failures text count _ _ _ c.loop-before.before inside c.loop-before.invariant.transcript (rw (← c.piece.ensures) c.in_ok-write_put.ensures.0);
      quiet = c.in_ok-write_put.ensures.1 ∙ c.loop-before.invariant.quiet;
    }

pub returns : goal.returns
returns g c =
    let count = further_pieces c.args.text.now in
    let text : ℕ → List ℕ = λ before. command_line (more_command c.args.field c.args.text.now before) in
    let past : count ≤ c.loop-before.before = omega (arith, c.loop-before-test.false) in
    sent_as g.W.Sink.transcript g.W.Sink.failures _ _ _ _ (line_of_each (more_command c.args.field c.args.text.now) (range_with_len 0 count))
    (all_sent g.W.Sink.transcript g.W.Sink.failures text count _ _ c.loop-before.before past (c.loop-before.invariant.transcript, c.loop-before.invariant.quiet))
