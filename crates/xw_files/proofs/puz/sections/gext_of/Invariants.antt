use Rattle.std.proofs.Common.{◌≡◌, ◌-◌, length}
use Rattle.xw_files.specs.Puz.Sections.{gext_in, gext_among}
use Rattle.xw_files.proofs.puz.sections.gext_of.Given as goal

abbrev pub invariant-loop : goal.invariant-loop
invariant-loop l = gext_among (length l.bytes - l.counter) l.rest ≡ gext_in l.bytes
