use Rattle.std.proofs.Common.{rules}
use Rattle.xw_grid.proofs.fault.GridFaultFromAllocError.from.Goals as goal

pub returns : goal.returns
returns c = search rules
