-- The cost of reads that cover many words.
use Rattle.std.specs.Prelude.{ℕ, ◌+◌, ◌-◌, ◌/◌, Option, Some, None}

-- the number of chunks in a row of `long` bits
abbrev pub chunks_in : ℕ → ℕ
chunks_in long = (long + 63) / 64

-- the number of chunks that a search from chunk `from` on reads: up to that of the word it finds,
-- or to the end of the row
abbrev pub chunks_read : ℕ → ℕ → Option ℕ → ℕ
chunks_read long from (Some index) = index / 64 + 1 - from
chunks_read long from None = chunks_in long - from
