use Rattle.std.proofs.Common.{arith}
use Rattle.std.proofs.lemmas.Grind.{common_steps}
use Rattle.xw_words.specs.Index.{hash_of}
use Rattle.xw_words.proofs.index.hash.Goals as goal

pub returns : goal.returns
unfolding hash_of
returns c = grind (arith, common_steps)
