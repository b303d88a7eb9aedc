use Rattle.std.proofs.Common.{◌≡◌, ℕ, ◌<◌, ◌≤◌}
use Rattle.xw_words.specs.Dictionary.{known_words}
use Rattle.xw_net.specs.Room.{counts_of, with_word, size_at, row_at}
use Rattle.xw_net.proofs.room.reserve_rows.Given as goal

-- the bits stay, and the rows so far have room
abbrev pub invariant-loop-light : goal.invariant-loop-light
invariant-loop-light l = record {
  bits : (k : ℕ) → (row_at l.rows k).bits ≡ (row_at l.initial.rows k).bits;
  more : (k : ℕ) → (row_at l.initial.rows k).room ≤ (row_at l.rows k).room;
  done : (k : ℕ) → k < l.light → with_word l.grown (counts_of (known_words l.bank.words)) (size_at l.lights k) ≤ (row_at l.rows k).room;
}
