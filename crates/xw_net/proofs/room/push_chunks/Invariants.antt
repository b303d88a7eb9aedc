use Rattle.std.proofs.Common.{◌≡◌, ◌*◌, ◌≤◌, false, replicate}
use Rattle.xw_net.proofs.room.push_chunks.Given as goal

abbrev pub invariant-loop : goal.invariant-loop
invariant-loop l = record {
  bits : l.row.bits ≡ replicate (64 * l.counter) false;
  room : l.initial.row.room ≤ l.row.room;
}
