use Rattle.std.proofs.Common.{◌≡◌, ℕ, ◌*◌, ◌<◌, false, length, get_or}
use Rattle.xw_words.specs.Marks.{no_marks, are_left}
use Rattle.xw_words.proofs.table.limiting.limit_flags.Given as goal

-- the flags of the chunks so far are right
abbrev pub invariant-loop-chunk : goal.invariant-loop-chunk
invariant-loop-chunk l = record {
  long : length l.active.bits ≡ length l.marks.items;
  room : l.active.room ≡ l.initial.active.room;
  done : (i : ℕ) → i < length l.marks.items → i < 64 * l.chunk → get_or l.active.bits i false ≡ are_left l.least (get_or l.marks.items i no_marks);
}
