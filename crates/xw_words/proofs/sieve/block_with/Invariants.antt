use Rattle.std.proofs.Common.{◌≡◌, ◌<◌, ◌+◌, ◌*◌, ℕ, List, take, get_or}
use Rattle.xw_bits.specs.Bits.{has_bit}
use Rattle.xw_words.specs.Columns.{AreColumns, has_listed}
use Rattle.xw_words.specs.Dictionary.{Entry}
use Rattle.xw_words.proofs.sieve.block_with.Given as goal

abbrev pub invariant-loop-letter : goal.invariant-loop-letter
invariant-loop-letter l =
    (chunk k : ℕ) → chunk < 8 → k < 64 → (entries : List Entry) (position : ℕ) → AreColumns entries position l.columns
    → has_bit (get_or l.found chunk 0) k ≡ has_listed entries position (take l.letter-index l.list) (64 * (l.at + chunk) + k)
