use Rattle.xw_net.proofs.base.read_row.Goals as goal

pub returns-in-Some-clause-bits : goal.returns-in-Some-clause-bits
returns-in-Some-clause-bits g c but was = c.read_filled.ensures.bits (was c.in-Some.cell c.in-Some.is)
