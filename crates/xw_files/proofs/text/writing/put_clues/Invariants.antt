use Rattle.std.proofs.Common.{◌≡◌, ◌++◌}
use Rattle.std.specs.List.{flat_map}
use Rattle.xw_files.specs.Text.Written.{line, clue_texts}
use Rattle.xw_files.proofs.TextLemmas.Clues.{starts_after}
use Rattle.xw_files.proofs.TextLemmas.Writes.{clues_after}
use Rattle.xw_files.proofs.text.writing.put_clues.Given as goal

abbrev pub invariant-loop-index : goal.invariant-loop-index
invariant-loop-index l = l.out.items ++ clues_after l.clues l.direction (starts_after l.grid l.direction l.index) ≡ l.fn.out.items ++ flat_map line (clue_texts l.direction l.clues l.grid)
