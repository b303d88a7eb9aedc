use Rattle.std.proofs.Common.{length}
use Rattle.xw_files.specs.Puz.Sections.{AreBytes}
use Rattle.xw_files.proofs.PuzLemmas.RebusLemmas.{AreLeft}
use Rattle.xw_files.proofs.puz.rebus.is_among.Given as goal

abbrev pub invariant-loop-section : goal.invariant-loop-section
invariant-loop-section l = record {
  small : AreBytes l.rest;
  left : AreLeft l.bytes l.rest;
}

abbrev pub decreases-loop-section : goal.decreases-loop-section
decreases-loop-section l = length l.rest
