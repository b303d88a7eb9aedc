use Rattle.std.proofs.Common.{◌≡◌, ◌<◌, ◌+◌, ◌*◌, ℕ, List, take}
use Rattle.xw_bits.specs.Bits.{has_bit}
use Rattle.xw_words.specs.Columns.{AreColumns, has_listed}
use Rattle.xw_words.specs.Dictionary.{Entry}
use Rattle.xw_words.proofs.sieve.chunk_with.Given as goal

abbrev pub invariant-loop-letter : goal.invariant-loop-letter
invariant-loop-letter l =
    (k : ℕ) → k < 64 → (entries : List Entry) (position : ℕ) → AreColumns entries position l.columns → has_bit l.found k ≡ has_listed entries position (take l.letter-index l.list) (64 * l.at + k)
