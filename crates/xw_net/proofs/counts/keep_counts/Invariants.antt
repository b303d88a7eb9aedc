use Rattle.std.proofs.Common.{◌≡◌}
use Rattle.xw_net.proofs.counts.keep_counts.Given as goal

abbrev pub invariant-loop-light : goal.invariant-loop-light
invariant-loop-light l = l.rows ≡ l.fn.rows
