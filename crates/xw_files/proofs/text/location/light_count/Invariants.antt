use Rattle.std.proofs.Common.{◌≡◌, ◌+◌, ◌≤◌, length}
use Rattle.xw_files.specs.Text.Starts.{starts}
use Rattle.xw_files.proofs.TextLemmas.Clues.{starts_after}
use Rattle.xw_files.proofs.text.location.light_count.Given as goal

abbrev pub invariant-loop-index : goal.invariant-loop-index
invariant-loop-index l = record {
  few : l.count ≤ l.index;
  counted : l.count + length (starts_after l.grid l.direction l.index) ≡ length (starts l.grid l.direction);
}
