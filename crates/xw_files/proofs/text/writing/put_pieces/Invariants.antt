use Rattle.std.proofs.Common.{◌≡◌, ◌++◌, length}
use Rattle.std.specs.List.{flat_map}
use Rattle.xw_files.specs.Text.Written.{line, pieces}
use Rattle.xw_files.proofs.text.writing.put_pieces.Given as goal

abbrev pub invariant-loop-end : goal.invariant-loop-end
invariant-loop-end l = l.out.items ++ flat_map line (pieces l.rest) ≡ l.fn.out.items ++ flat_map line (pieces l.notes)

abbrev pub decreases-loop-end : goal.decreases-loop-end
decreases-loop-end l = length l.rest
