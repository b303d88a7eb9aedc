use Rattle.std.proofs.Common.{◌<◌, ◌≤◌, ◌+◌, ◌∙◌, ℕ, List, arith}
use Rattle.std.proofs.lemmas.Result.{err_from_is_err_and}
use Rattle.xw_answers.specs.Stats.{letter_line}
use Rattle.xw_answers.proofs.Sending.{one_more_sent, stops_at, all_sent}
use Rattle.xw_answers.proofs.stats.write_letters.Goals as goal

pub returns-in_err-write_letter : goal.returns-in_err-write_letter
returns-in_err-write_letter g c =
    let e = err_from_is_err_and c.from_residual.result c.from_residual.ensures.1 in
    let text : ℕ → List ℕ = λ before. letter_line c.args.grid.now (before + 65) in
    let inside : c.loop-before.before < 26 = omega arith in
    rw e.1 (stops_at g.W.Sink.transcript g.W.Sink.failures text 26 _ _ _ c.loop-before.before inside (c.loop-before.invariant.transcript, c.loop-before.invariant.quiet)
    c.in_err-write_letter.ensures)

pub loop-before-preserved : goal.loop-before-preserved
loop-before-preserved g c =
    let text : ℕ → List ℕ = λ before. letter_line c.args.grid.now (before + 65) in
    let inside : c.loop-before.before < 26 = omega arith in
    record {
      transcript = one_more_sent g.W.Sink.transcript g.W.Sink.failures text 26 _ _ _ c.loop-before.before inside c.loop-before.invariant.transcript c.in_ok-write_letter.ensures.0;
      quiet = c.in_ok-write_letter.ensures.1 ∙ c.loop-before.invariant.quiet;
    }

pub returns : goal.returns
returns g c =
    let text : ℕ → List ℕ = λ before. letter_line c.args.grid.now (before + 65) in
    let past : 26 ≤ c.loop-before.before = omega arith in
    all_sent g.W.Sink.transcript g.W.Sink.failures text 26 _ _ c.loop-before.before past (c.loop-before.invariant.transcript, c.loop-before.invariant.quiet)
