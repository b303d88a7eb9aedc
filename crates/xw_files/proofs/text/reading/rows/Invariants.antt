use Rattle.std.proofs.Common.{◌≡◌, ◌+◌, ◌-◌}
use Rattle.xw_files.specs.Text.Shape.{with_front, rows_at}
use Rattle.xw_files.proofs.text.reading.rows.Given as goal

abbrev pub invariant-loop-above : goal.invariant-loop-above
invariant-loop-above l = with_front l.squares.items (rows_at l.width (l.above + 1) (l.height - l.above) l.lines) ≡ rows_at l.width 1 l.height l.fn.lines
