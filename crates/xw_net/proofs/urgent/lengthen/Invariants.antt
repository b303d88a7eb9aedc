use Rattle.std.proofs.Common.{◌≡◌, ◌++◌, ◌≤◌}
use Rattle.std.specs.Prelude.{replicate, vec_capacity}
use Rattle.xw_net.proofs.urgent.lengthen.Given as goal

-- so many were appended, and the room stays
abbrev pub invariant-loop : goal.invariant-loop
invariant-loop l = record {
  items : l.list.items ≡ l.initial.list.items ++ replicate l.counter 18446744073709551615;
  room : vec_capacity l.initial.list ≤ vec_capacity l.list;
}
