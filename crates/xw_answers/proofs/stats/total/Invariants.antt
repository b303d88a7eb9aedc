use Rattle.std.proofs.Common.{◌≡◌, ◌≤◌, ◌*◌, take}
use Rattle.xw_answers.specs.Stats.{total_size}
use Rattle.xw_answers.proofs.stats.total.Given as goal

abbrev pub invariant-loop-index : goal.invariant-loop-index
invariant-loop-index l = record {
  is : l.total ≡ total_size (take l.index l.lights);
  small : l.total ≤ l.index * 4294967295;
}
