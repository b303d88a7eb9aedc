use Rattle.std.proofs.Common.{◌≡◌, ℕ, ◌<◌, ◌≤◌, length, false, replicate}
use Rattle.xw_words.specs.Dictionary.{known_words}
use Rattle.xw_net.specs.Room.{counts_of, size_at, row_at}
use Rattle.xw_net.proofs.room.make_rows.Given as goal

abbrev pub invariant-loop-light : goal.invariant-loop-light
invariant-loop-light l = record {
  long : length l.rows.items ≡ l.light;
  bits : (light : ℕ) → light < l.light → (row_at l.rows.items light).bits ≡ replicate (counts_of (known_words l.bank.words) (size_at l.lights light)) false;
  room : (light : ℕ) → light < l.light → counts_of (known_words l.bank.words) (size_at l.lights light) ≤ (row_at l.rows.items light).room;
}
