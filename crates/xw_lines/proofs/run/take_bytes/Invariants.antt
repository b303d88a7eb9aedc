use Rattle.std.proofs.Common.{◌≡◌, ◌≤◌, ◌-◌, ℕ, List, ◌++◌, length, take}
use Rattle.xw_lines.specs.Run.{Progress}
use Rattle.xw_lines.proofs.run.take_bytes.Given as goal

abbrev pub invariant-loop-end : goal.invariant-loop-end
invariant-loop-end g l = record {
  within : l.from ≤ length l.bytes;
  goes-on : (start : g.row.S.Denot) (begun text : List ℕ)
      → Progress g.S.LineHandler.answers start begun text l.initial.handler l.initial.piece l.initial.refused (g.W.Sink.transcript l.initial.sink)
      → Progress g.S.LineHandler.answers start begun (text ++ take l.from l.bytes) l.handler l.piece l.refused (g.W.Sink.transcript l.sink);
  quiet : g.W.Sink.failures l.sink ≡ g.W.Sink.failures l.initial.sink;
}

abbrev pub decreases-loop-end : goal.decreases-loop-end
decreases-loop-end g l = length l.bytes - l.from
