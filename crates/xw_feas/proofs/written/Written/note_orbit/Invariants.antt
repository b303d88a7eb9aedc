use Rattle.std.proofs.Common.{◌≡◌, ◌++◌, map}
use Rattle.xw_grid.specs.Orbit.{orbit_of}
use Rattle.xw_feas.specs.Written.{with_entry_of}
use Rattle.xw_feas.proofs.written.Written.note_orbit.Given as goal

abbrev pub invariant-loop-member : goal.invariant-loop-member
invariant-loop-member l = l.self ++ map (with_entry_of l.grid) l.orbit ≡ map (with_entry_of l.grid) (orbit_of l.grid l.fn.cell)
