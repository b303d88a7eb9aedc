use Rattle.std.proofs.Common.{◌≡◌}
use Rattle.xw_files.specs.Text.Lines.{shown}
use Rattle.xw_files.proofs.text.lines.next_shown.Given as goal

abbrev pub invariant-loop-line : goal.invariant-loop-line
invariant-loop-line l =
    (goal.iterator-loop-line).can_next l.lines × (goal.iterator-loop-line).is_finite l.lines × (shown l.lines ≡ shown l.fn.lines)
