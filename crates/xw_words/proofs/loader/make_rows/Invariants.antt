use Rattle.std.proofs.Common.{◌≡◌, map}
use Rattle.xw_words.proofs.loader.make_rows.Given as goal

-- a row for each table so far
abbrev pub invariant-loop-table : goal.invariant-loop-table
invariant-loop-table l = record {
  entries : map (λ row. row.entries) l.rows.items ≡ map (λ table. table.entries) l.yielded;
  word_lens : map (λ row. row.word_len) l.rows.items ≡ map (λ table. table.word_len) l.yielded;
}
