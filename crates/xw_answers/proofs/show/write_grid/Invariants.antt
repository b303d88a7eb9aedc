use Rattle.std.proofs.Common.{◌+◌, [], flat_map, take}
use Rattle.std.specs.Prelude.{Ok}
use Rattle.std.specs.List.{range_with_len}
use Rattle.xw_lines.specs.Sends.{Gathers}
use Rattle.xw_answers.specs.Show.{row_lines}
use Rattle.xw_answers.proofs.show.write_grid.Given as goal

-- the first rows are written or buffered
abbrev pub invariant-loop-above : goal.invariant-loop-above
invariant-loop-above g l =
    Gathers {T = Unit {0}} {E = Unit {0}} g.W.Sink.transcript g.W.Sink.failures l.initial.sink l.sink [] l.lines (Ok (tt {0}))
    (flat_map (λ above. row_lines l.grid (above + 1)) (take l.above (range_with_len 0 l.grid.height)))
