use Rattle.std.proofs.Common.{◌≡◌, ◌*◌, ◌<◌, ◌≤◌, ℕ, false}
use Rattle.xw_words.specs.Dictionary.{entry_at, is_turned}
use Rattle.xw_words.proofs.table.Table.turns_chunk.Given as goal

-- none of the words so far is turned
abbrev pub invariant-loop-index : goal.invariant-loop-index
invariant-loop-index l = (k : ℕ) → 64 * l.chunk ≤ k → k < l.index → is_turned l.least (entry_at l.self.entries k) ≡ false
