use Rattle.std.proofs.Common.{◌≡◌, ◌++◌, take}
use Rattle.std.specs.Prelude.{flat_map}
use Rattle.xw_answers.specs.Fields.{clue_told}
use Rattle.xw_answers.proofs.fields.write_clues.Given as goal

abbrev pub invariant-loop-index : goal.invariant-loop-index
invariant-loop-index g l = record {
  transcript : g.W.Sink.transcript l.sink ≡ g.W.Sink.transcript l.initial.sink ++ flat_map (clue_told l.clues) (take l.index l.lights);
  quiet : g.W.Sink.failures l.sink ≡ g.W.Sink.failures l.initial.sink;
}
