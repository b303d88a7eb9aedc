use Rattle.std.proofs.Common.{◌≡◌, ◌++◌, take}
use Rattle.std.specs.Prelude.{flat_map}
use Rattle.xw_session.specs.Found.{duplicate_line}
use Rattle.xw_session.proofs.session.queries.write_duplicates.Given as goal

abbrev pub invariant-loop-duplicate : goal.invariant-loop-duplicate
invariant-loop-duplicate g l = record {
  transcript : g.W.Sink.transcript l.sink ≡ g.W.Sink.transcript l.initial.sink ++ flat_map (duplicate_line l.grid) (take l.duplicate-index l.found);
  quiet : g.W.Sink.failures l.sink ≡ g.W.Sink.failures l.initial.sink;
}
