use Rattle.std.proofs.Common.{◌≡◌, [], drop}
use Rattle.xw_files.specs.Puz.Sections.{with_marks}
use Rattle.xw_files.proofs.puz.sections.marked.Given as goal

abbrev pub invariant-loop-index : goal.invariant-loop-index
invariant-loop-index l = with_marks l.grid l.circles l.index (drop l.index l.bytes) ≡ with_marks l.grid [] 0 l.bytes
