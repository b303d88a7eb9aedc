use Rattle.std.proofs.Common.{◌≡◌, ◌<◌, ℕ, get_or}
use Rattle.xw_net.specs.declared.level.KeptRow.{KeptRow}
use Rattle.xw_net.proofs.level.has_kept.Given as goal

abbrev pub invariant-loop-index : goal.invariant-loop-index
invariant-loop-index l = (k : ℕ) (other : KeptRow) → k < l.index → (get_or l.kept.items k other).light ≡ l.light → ⊥
