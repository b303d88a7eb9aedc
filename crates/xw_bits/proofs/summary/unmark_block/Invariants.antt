use Rattle.std.proofs.Common.{length, ◌≤◌, ◌*◌}
use Rattle.xw_bits.specs.Summary.{IsSummary}
use Rattle.xw_bits.proofs.summary.unmark_block.Given as goal

abbrev pub invariant-loop-chunk : goal.invariant-loop-chunk
invariant-loop-chunk l = record {
  summary : IsSummary l.words l.summary;
  long : length l.words ≤ 64 * length l.summary;
}
