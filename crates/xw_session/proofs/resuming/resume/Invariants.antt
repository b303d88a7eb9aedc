use Rattle.std.proofs.Common.{◌+◌, ◌≤◌, length}
use Rattle.xw_session.proofs.Resumed.{Goes}
use Rattle.xw_session.proofs.resuming.resume.Given as goal

abbrev pub invariant-loop-rest : goal.invariant-loop-rest
invariant-loop-rest g l = record {
  numbered : l.number + length l.rest ≤ length l.text;
  counted : l.refused ≤ l.number;
  goes : Goes g.E.Sink.transcript g.E.Sink.failures l.file l.initial.session l.text l.rest l.number l.refused l.session l.initial.errors l.errors;
}

abbrev pub decreases-loop-rest : goal.decreases-loop-rest
decreases-loop-rest g l = length l.rest
