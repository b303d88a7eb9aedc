use Rattle.std.proofs.Common.{◌≡◌, ℕ, ◌+◌, ◌*◌, ◌/◌, ◌<◌, get_or, false, length}
use Rattle.std.specs.Prelude.{slice_index}
use Rattle.xw_bits.specs.Bits.{has_bit}
use Rattle.xw_words.specs.Columns.{column_at}
use Rattle.xw_words.proofs.columns.put_position.Given as goal

-- the columns of the letters so far are written, and the others are unchanged
abbrev pub invariant-loop-letter : goal.invariant-loop-letter
invariant-loop-letter l = record {
  len : (i : ℕ) → length (column_at l.columns i).bits ≡ length (column_at l.initial.columns i).bits;
  done : (k j : ℕ) → k < l.letter → j < 64 → get_or (column_at l.columns (26 * l.position + k)).bits (64 * l.chunk + j) false ≡ has_bit (slice_index l.bits k) j;
  others : (i at : ℕ) → (at / 64 ≡ l.chunk → ⊥) → get_or (column_at l.columns i).bits at false ≡ get_or (column_at l.initial.columns i).bits at false;
  left : (i : ℕ) → (i < 26 * l.position + l.letter → i < 26 * l.position) → column_at l.columns i ≡ column_at l.initial.columns i;
  room : (i : ℕ) → (column_at l.columns i).room ≡ (column_at l.initial.columns i).room;
}
