use Rattle.std.proofs.Common.{◌≡◌, ◌++◌, Bool, List}
use Rattle.std.specs.Io.KnownBytes.{Keeps}
use Rattle.xw_lines.specs.Tries.{calls, AreInterrupted}
use Rattle.xw_lines.proofs.standard.write_retrying.Given as goal

abbrev pub invariant-loop : goal.invariant-loop
invariant-loop g l = record {
  kept : Keeps (g.W.Write.contents l.initial.writer) (g.W.Write.contents l.writer);
  interrupted : (before : List Bool) × AreInterrupted before × (calls l.tries ≡ before ++ calls l.initial.tries);
}
