use Rattle.std.proofs.Common.{◌≡◌, ◌≤◌, take}
use Rattle.std.specs.Prelude.{vec_len, vec_capacity}
use Rattle.xw_journal.specs.Journal.{entries_of}
use Rattle.xw_journal.proofs.entries.Entries.copy.Given as goal

abbrev pub invariant-loop-index : goal.invariant-loop-index
invariant-loop-index l = record {
  items : l.self-inside.items.items ≡ take l.index (entries_of l.grid);
  count : vec_len l.self-inside.items ≡ l.index;
  room : 65025 ≤ vec_capacity l.self-inside.items;
}
