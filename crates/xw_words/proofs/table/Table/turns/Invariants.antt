use Rattle.std.proofs.Common.{◌≡◌, ◌*◌, ◌<◌, ℕ, false, length}
use Rattle.xw_words.specs.Dictionary.{entry_at, is_turned}
use Rattle.xw_words.proofs.table.Table.turns.Given as goal

-- no word of the chunks so far is turned
abbrev pub invariant-loop-chunk : goal.invariant-loop-chunk
invariant-loop-chunk l = (k : ℕ) → k < 64 * l.chunk → k < length l.self.entries → is_turned l.least (entry_at l.self.entries k) ≡ false
