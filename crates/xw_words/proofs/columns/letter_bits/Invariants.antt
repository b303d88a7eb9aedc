use Rattle.std.proofs.Common.{◌≡◌, ℕ, ◌+◌, ◌*◌, ◌<◌, ◌≤◌, false, length}
use Rattle.std.specs.Prelude.{slice_index}
use Rattle.xw_bits.specs.Bits.{has_bit}
use Rattle.xw_words.specs.Columns.{letter_at}
use Rattle.xw_words.proofs.columns.letter_bits.Given as goal

-- the bits of the words so far are right, and the others are clear
abbrev pub invariant-loop-index : goal.invariant-loop-index
invariant-loop-index l = record {
  long : length l.bits ≡ 26;
  done : (k j : ℕ) → k < 26 → l.first + j < l.index → has_bit (slice_index l.bits k) j ≡ letter_at l.letters ((l.first + j) * l.word_len + l.position) k;
  left : (k j : ℕ) → k < 26 → l.index ≤ l.first + j → has_bit (slice_index l.bits k) j ≡ false;
}
