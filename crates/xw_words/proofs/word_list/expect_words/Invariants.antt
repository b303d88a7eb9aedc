use Rattle.std.proofs.Common.{◌≡◌}
use Rattle.xw_words.proofs.word_list.expect_words.Given as goal

-- the words stay
abbrev pub invariant-loop-len : goal.invariant-loop-len
invariant-loop-len l = l.loader ≡ l.initial.loader
