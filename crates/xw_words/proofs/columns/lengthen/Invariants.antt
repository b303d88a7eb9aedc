use Rattle.std.proofs.Common.{◌≡◌, ◌≤◌, ◌+◌, ℕ, ◌<◌, false, length, get_or}
use Rattle.xw_words.specs.Columns.{column_at}
use Rattle.xw_words.proofs.columns.lengthen.Given as goal

-- the columns so far are longer, and the others are unchanged
abbrev pub invariant-loop-i : goal.invariant-loop-i
invariant-loop-i l = record {
  done : (k : ℕ) → k < l.i → length (column_at l.columns k).bits ≡ length (column_at l.initial.columns k).bits + 64;
  bits : (k index : ℕ) → get_or (column_at l.columns k).bits index false ≡ get_or (column_at l.initial.columns k).bits index false;
  left : (k : ℕ) → l.i ≤ k → column_at l.columns k ≡ column_at l.initial.columns k;
  more : (k : ℕ) → (column_at l.initial.columns k).room ≤ (column_at l.columns k).room;
}
