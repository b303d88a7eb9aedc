use Rattle.std.proofs.Common.{◌≡◌, ◌≤◌, List, ℕ, ◌++◌, length}
use Rattle.xw_lines.specs.Run.{Progress}
use Rattle.xw_lines.proofs.run.answer_ended.Given as goal

abbrev pub invariant-loop-turn : goal.invariant-loop-turn
invariant-loop-turn g l = (text : List ℕ) × record {
  transcript : g.R.Source.transcript l.source ≡ g.R.Source.transcript l.initial.source ++ text;
  turns : l.turn ≤ length text;
  goes-on : Progress g.S.LineHandler.answers l.initial.handler (g.W.Sink.transcript l.initial.sink) text l.handler l.piece l.refused (g.W.Sink.transcript l.sink);
  quiet : g.W.Sink.failures l.sink ≡ g.W.Sink.failures l.initial.sink;
  unfailed : g.R.Source.failures l.source ≡ g.R.Source.failures l.initial.source;
}
