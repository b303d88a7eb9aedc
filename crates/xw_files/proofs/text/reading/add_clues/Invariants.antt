use Rattle.std.proofs.Common.{◌≡◌}
use Rattle.xw_files.specs.Text.Starts.{starts}
use Rattle.xw_files.specs.Text.Shape.{clues_at}
use Rattle.xw_files.proofs.TextLemmas.Clues.{starts_after}
use Rattle.xw_files.proofs.text.reading.add_clues.Given as goal

abbrev pub invariant-loop-index : goal.invariant-loop-index
invariant-loop-index l = clues_at l.fault l.direction (starts_after l.grid l.direction l.index) l.clues l.lines ≡ clues_at l.fault l.direction (starts l.grid l.direction) l.fn.clues l.fn.lines
