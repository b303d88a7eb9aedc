use Rattle.std.proofs.Common.{◌≡◌, ◌++◌, take, length}
use Rattle.std.specs.Prelude.{flat_map}
use Rattle.std.specs.List.{range_with_len}
use Rattle.xw_grid.specs.Light.{lights_of}
use Rattle.xw_session.proofs.session.telling.write_each_light.Given as goal

abbrev pub invariant-loop-light : goal.invariant-loop-light
invariant-loop-light g l = record {
  transcript : g.W.Sink.transcript l.sink ≡ g.W.Sink.transcript l.initial.sink ++ flat_map (g.R.LightReport.line (g.E.Feasible.state l.engine)) (take l.light (range_with_len 0 (length (lights_of (g.E.Feasible.state l.engine).grid))));
  quiet : g.W.Sink.failures l.sink ≡ g.W.Sink.failures l.initial.sink;
}
