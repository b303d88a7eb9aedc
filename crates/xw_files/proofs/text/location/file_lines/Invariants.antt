use Rattle.std.proofs.Common.{◌≡◌, ◌++◌, map}
use Rattle.xw_files.specs.Text.Lines.{trimmed, file_lines}
use Rattle.xw_files.proofs.text.location.file_lines.Given as goal

abbrev pub invariant-loop-line : goal.invariant-loop-line
invariant-loop-line l =
    (goal.iterator-loop-line).can_next l.line-iterator × (goal.iterator-loop-line).is_finite l.line-iterator
    × (map (λ line. line.now) l.lines.items ++ map trimmed l.line-iterator ≡ file_lines l.bytes)
