use Rattle.std.proofs.Common.{[], take}
use Rattle.std.specs.Prelude.{Ok, flat_map}
use Rattle.xw_lines.specs.Sends.{Gathers}
use Rattle.xw_answers.specs.Text.{light_line}
use Rattle.xw_answers.proofs.lists.write_lights.Given as goal

-- the first lights are written or buffered
abbrev pub invariant-loop-index : goal.invariant-loop-index
invariant-loop-index g l =
    Gathers {T = Unit {0}} {E = Unit {0}} g.W.Sink.transcript g.W.Sink.failures l.initial.sink l.sink [] l.lines (Ok (tt {0})) (flat_map (light_line l.grid) (take l.index l.lights))
