use Rattle.std.proofs.Common.{◌≡◌}
use Rattle.xw_net.proofs.urgent.Urgent.next_place.Given as goal

-- the places stay as they were
abbrev pub invariant-loop : goal.invariant-loop
invariant-loop l = l.self ≡ l.initial.self
