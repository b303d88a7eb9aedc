use Rattle.std.proofs.Common.{◌<◌, ◌≤◌, ◌+◌, ◌∙◌, ℕ, List, arith}
use Rattle.std.proofs.lemmas.Result.{err_from_is_err_and}
use Rattle.xw_answers.specs.Stats.{size_line}
use Rattle.xw_answers.proofs.Sending.{one_more_sent, stops_at, all_sent}
use Rattle.xw_answers.proofs.stats.write_sizes.Goals as goal

pub returns-in_err-write_size : goal.returns-in_err-write_size
returns-in_err-write_size g c =
    let e = err_from_is_err_and c.from_residual.result c.from_residual.ensures.1 in
    let text : ℕ → List ℕ = λ before. size_line c.args.grid.now (before + 2) in
    let inside : c.loop-before.before < 254 = omega arith in
    rw e.1 (stops_at g.W.Sink.transcript g.W.Sink.failures text 254 _ _ _ c.loop-before.before inside (c.loop-before.invariant.transcript, c.loop-before.invariant.quiet)
    c.in_err-write_size.ensures)

pub loop-before-preserved : goal.loop-before-preserved
loop-before-preserved g c =
    let text : ℕ → List ℕ = λ before. size_line c.args.grid.now (before + 2) in
    let inside : c.loop-before.before < 254 = omega arith in
    record {
      transcript = one_more_sent g.W.Sink.transcript g.W.Sink.failures text 254 _ _ _ c.loop-before.before inside c.loop-before.invariant.transcript c.in_ok-write_size.ensures.0;
      quiet = c.in_ok-write_size.ensures.1 ∙ c.loop-before.invariant.quiet;
    }

pub returns : goal.returns
returns g c =
    let text : ℕ → List ℕ = λ before. size_line c.args.grid.now (before + 2) in
    let past : 254 ≤ c.loop-before.before = omega arith in
    all_sent g.W.Sink.transcript g.W.Sink.failures text 254 _ _ c.loop-before.before past (c.loop-before.invariant.transcript, c.loop-before.invariant.quiet)
