use Rattle.std.proofs.Common.{◌≡◌, List, length}
use Rattle.xw_bits.specs.Bits.{RowOfBits}
use Rattle.xw_net.specs.Room.{KeepRoom}
use Rattle.xw_net.specs.Level.{LeadBack}
use Rattle.xw_net.proofs.level.give_back.Given as goal

abbrev pub invariant-loop-last : goal.invariant-loop-last
invariant-loop-last l = record {
  back : (before : List RowOfBits) → LeadBack l.fn.kept.items l.fn.rows.items before → LeadBack l.kept.items l.rows.items before;
  many : length l.rows.items ≡ length l.fn.rows.items;
  room : KeepRoom l.fn.rows.items l.rows.items;
}

abbrev pub decreases-loop-last : goal.decreases-loop-last
decreases-loop-last l = length l.kept.items
