use Rattle.std.proofs.Common.{arith}
use Rattle.xw_feas.proofs.Support.{set_flag_within}
use Rattle.xw_net.proofs.tally.weigh_words.Goals as goal

pub word-requires : goal.word-requires
word-requires c = omega (arith, set_flag_within c.args.row.now.bits c.in-Some.index c.in-Some.ensures.set.1, c.requires.words)
