use Rattle.std.proofs.Common.{◌≡◌, ℕ, ◌*◌, ◌≤◌, false, length, get_or}
use Rattle.xw_words.proofs.table.growing.lengthen.Given as goal

-- the row has whole chunks, and the bits are as they were
abbrev pub invariant-loop : goal.invariant-loop
invariant-loop l = record {
  long : length l.row.bits ≡ 64 * l.counter;
  bits : (i : ℕ) → get_or l.row.bits i false ≡ get_or l.initial.row.bits i false;
  room : l.initial.row.room ≤ l.row.room;
}
