use Rattle.std.proofs.Common.{◌<◌, ◌≤◌, ◌∙◌, ap, length, arith}
use Rattle.std.proofs.lemmas.Result.{err_from_is_err_and}
use Rattle.xw_grid.specs.Light.{lights_of}
use Rattle.xw_feas.proofs.BoardLemmas.{length-lights}
use Rattle.xw_answers.proofs.Sending.{one_more_sent, stops_at, all_sent}
use Rattle.xw_session.proofs.session.telling.write_each_light.Goals as goal

pub write_light-requires : goal.write_light-requires
write_light-requires g c =
    let state = g.E.Feasible.state c.args.engine.now in
    let count = c.len-light-end.ensures.len ∙ ap length c.lights.ensures in
    omega (arith, c.loop-light-test.true, count, length-lights state.grid)

pub returns-in_err-write_light : goal.returns-in_err-write_light
returns-in_err-write_light g c =
    let e = err_from_is_err_and c.from_residual.result c.from_residual.ensures.1 in
    let state = g.E.Feasible.state c.args.engine.now in
    let count = c.len-light-end.ensures.len ∙ ap length c.lights.ensures in
    let inside : c.loop-light.light < length (lights_of state.grid) = omega (arith, c.loop-light-test.true, count) in
    rw e.1 (stops_at g.W.Sink.transcript g.W.Sink.failures (g.R.LightReport.line state) (length (lights_of state.grid)) _ _ _ c.loop-light.light inside (c.loop-light.invariant.transcript, c.loop-light.invariant.quiet) c.in_err-write_light.ensures)

pub loop-light-preserved : goal.loop-light-preserved
loop-light-preserved g c =
    let state = g.E.Feasible.state c.args.engine.now in
    let count = c.len-light-end.ensures.len ∙ ap length c.lights.ensures in
    let inside : c.loop-light.light < length (lights_of state.grid) = omega (arith, c.loop-light-test.true, count) in
    record {
      transcript = one_more_sent g.W.Sink.transcript g.W.Sink.failures (g.R.LightReport.line state) (length (lights_of state.grid)) _ _ _ c.loop-light.light inside c.loop-light.invariant.transcript c.in_ok-write_light.ensures.0;
      quiet = c.in_ok-write_light.ensures.1 ∙ c.loop-light.invariant.quiet;
    }

pub returns : goal.returns
returns g c =
    let state = g.E.Feasible.state c.args.engine.now in
    let count = c.len-light-end.ensures.len ∙ ap length c.lights.ensures in
    let past : length (lights_of state.grid) ≤ c.loop-light.light = omega (arith, c.loop-light-test.false, count) in
    all_sent g.W.Sink.transcript g.W.Sink.failures (g.R.LightReport.line state) (length (lights_of state.grid)) _ _ c.loop-light.light past (c.loop-light.invariant.transcript, c.loop-light.invariant.quiet)
