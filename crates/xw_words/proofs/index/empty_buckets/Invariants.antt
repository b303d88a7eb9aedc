use Rattle.std.proofs.Common.{◌≡◌, ◌-◌}
use Rattle.std.specs.Prelude.{replicate}
use Rattle.xw_words.proofs.index.empty_buckets.Given as goal

abbrev pub invariant-loop : goal.invariant-loop
invariant-loop l = l.heads.items ≡ replicate l.counter 0

abbrev pub decreases-loop : goal.decreases-loop
decreases-loop l = l.many - l.counter
