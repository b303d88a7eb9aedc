use Rattle.std.proofs.Common.{◌≡◌, ◌≤◌, ◌*◌, ℕ, ◌<◌, true, cond, set}
use Rattle.xw_words.specs.Columns.{column_at, bit_in}
use Rattle.xw_words.proofs.columns.put_word.Given as goal

-- the columns of the positions so far have the word, and the others are unchanged
abbrev pub invariant-loop-position : goal.invariant-loop-position
invariant-loop-position l = record {
  done : (k : ℕ) → k < 26 * l.position → (column_at l.columns k).bits ≡ cond (bit_in l.word k) (set (column_at l.initial.columns k).bits l.index true) (column_at l.initial.columns k).bits;
  left : (k : ℕ) → 26 * l.position ≤ k → column_at l.columns k ≡ column_at l.initial.columns k;
  more : (k : ℕ) → (column_at l.initial.columns k).room ≤ (column_at l.columns k).room;
}
