use Rattle.std.proofs.Common.{◌<◌, List, [], length, get_or, subst, arith}
use Rattle.std.specs.Prelude.{flat_map}
use Rattle.std.proofs.lemmas.Result.{err_from_is_err_and}
use Rattle.std.proofs.lemmas.List.{get_or_default}
use Rattle.xw_grid.specs.declared.lights.Light.{Light}
use Rattle.xw_grid.specs.Light.{no_light}
use Rattle.xw_lines.specs.Device.{Begins, HasFailed}
use Rattle.xw_lines.specs.Sends.{Sends}
use Rattle.xw_answers.specs.Text.{light_line}
use Rattle.xw_answers.proofs.Gathering.{gathers-nothing, item_gathered, item_stops, items_end}
use Rattle.xw_answers.proofs.lists.write_lights.Goals as goal

pub loop-index-init : goal.loop-index-init
loop-index-init g c = rw c.new-lines.ensures (gathers-nothing g.W.Sink.transcript g.W.Sink.failures (Unit {0}) c.args.sink.now [])

pub loop-index-preserved : goal.loop-index-preserved
loop-index-preserved g c =
    let lights = c.args.lights.now in
    let within : c.loop-index.index < length lights = omega (arith, c.loop-index-test.true, c.len-index-end.ensures.len) in
    item_gathered g.W.Sink.transcript g.W.Sink.failures (light_line c.args.grid.now) lights c.loop-index.index (get_or lights c.loop-index.index no_light) within (get_or_default lights c.loop-index.index no_light _ within)
    c.args.sink.now c.loop-index.sink c.put_light.new.sink [] c.loop-index.lines c.put_light.new.line c.loop-index.invariant c.in_ok-put_light.ensures

pub returns-in_err-put_light : goal.returns-in_err-put_light
returns-in_err-put_light g c =
    let e = err_from_is_err_and c.from_residual.result c.from_residual.ensures.1 in
    let lights = c.args.lights.now in
    let within : c.loop-index.index < length lights = omega (arith, c.loop-index-test.true, c.len-index-end.ensures.len) in
    let stops = item_stops g.W.Sink.transcript g.W.Sink.failures (light_line c.args.grid.now) lights c.loop-index.index (get_or lights c.loop-index.index no_light) within (get_or_default lights c.loop-index.index no_light _ within)
    c.args.sink.now c.loop-index.sink c.put_light.new.sink c.loop-index.lines c.loop-index.invariant c.in_err-put_light.ensures in
    rw e.1 (subst (λ (lights : List Light). Begins (g.W.Sink.transcript c.args.sink.now) (g.W.Sink.transcript c.put_light.new.sink) (flat_map (light_line c.args.grid.now) lights) × HasFailed (g.W.Sink.failures c.args.sink.now) (g.W.Sink.failures c.put_light.new.sink)) c.requires stops)

pub returns : goal.returns
returns g c =
    subst (λ (lights : List Light). Sends g.W.Sink.transcript g.W.Sink.failures c.args.sink.now c.send.new.sink c.send.result (flat_map (light_line c.args.grid.now) lights)) c.requires
    (items_end g.W.Sink.transcript g.W.Sink.failures (light_line c.args.grid.now) c.args.lights.now c.args.sink.now c.loop-index.sink c.send.new.sink c.loop-index.lines c.loop-index.index c.send.result (omega (arith, c.loop-index-test.false, c.len-index-end.ensures.len)) c.loop-index.invariant c.send.ensures.sends)
