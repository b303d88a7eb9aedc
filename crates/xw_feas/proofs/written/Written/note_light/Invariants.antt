use Rattle.std.proofs.Common.{◌≡◌, take, map}
use Rattle.xw_grid.specs.Light.{cells_of}
use Rattle.xw_feas.specs.Written.{with_entry_of}
use Rattle.xw_feas.proofs.written.Written.note_light.Given as goal

abbrev pub invariant-loop-k : goal.invariant-loop-k
invariant-loop-k l = l.self ≡ map (with_entry_of l.grid) (take l.k (cells_of l.light))
