use Rattle.std.proofs.Common.{◌≡◌, length}
use Rattle.xw_commands.specs.Reading.{lights_first}
use Rattle.xw_commands.proofs.lights.LightArgs.read.Given as goal

abbrev pub invariant-loop : goal.invariant-loop
invariant-loop l = (lights_first l.initial.words).1 ≡ (lights_first l.words).1

abbrev pub decreases-loop : goal.decreases-loop
decreases-loop l = length l.words
