use Rattle.std.proofs.Common.{◌≡◌, ℕ, ◌<◌, [], replicate, map, get_or, vec_len}
use Rattle.xw_words.specs.Loader.{no_table}
use Rattle.xw_words.proofs.loader.make_tables.Given as goal

-- an empty table for each length so far
abbrev pub invariant-loop-len : goal.invariant-loop-len
invariant-loop-len l = record {
  made : vec_len l.tables ≡ l.len;
  empty : map (λ table. table.entries) l.tables.items ≡ replicate l.len [];
  word_lens : (k : ℕ) → k < l.len → (get_or l.tables.items k no_table).word_len ≡ k;
}
