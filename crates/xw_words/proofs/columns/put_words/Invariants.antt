use Rattle.std.proofs.Common.{◌≡◌, ℕ, ◌+◌, ◌*◌, ◌/◌, ◌%◌, ◌<◌, ◌≤◌, ◌&&◌, ltb, get_or, false, length}
use Rattle.xw_words.specs.Columns.{column_at, letter_at}
use Rattle.xw_words.proofs.columns.put_words.Given as goal

-- the columns of the positions so far are written, and the others are unchanged
abbrev pub invariant-loop-position : goal.invariant-loop-position
invariant-loop-position l = record {
  len : (i : ℕ) → length (column_at l.columns i).bits ≡ length (column_at l.initial.columns i).bits;
  done : (i j : ℕ) → i < 26 * l.position → j < 64 → get_or (column_at l.columns i).bits (64 * l.chunk + j) false ≡ (ltb (64 * l.chunk + j) l.words && letter_at l.letters ((64 * l.chunk + j) * l.word_len + i / 26) (i % 26));
  others : (i at : ℕ) → (at / 64 ≡ l.chunk → ⊥) → get_or (column_at l.columns i).bits at false ≡ get_or (column_at l.initial.columns i).bits at false;
  left : (i : ℕ) → 26 * l.position ≤ i → column_at l.columns i ≡ column_at l.initial.columns i;
  room : (i : ℕ) → (column_at l.columns i).room ≡ (column_at l.initial.columns i).room;
}
