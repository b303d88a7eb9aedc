use Rattle.std.proofs.Common.{rules}
use Rattle.xw_words.proofs.fault.WordFaultFromAllocError.from.Goals as goal

pub returns : goal.returns
returns c = search rules
