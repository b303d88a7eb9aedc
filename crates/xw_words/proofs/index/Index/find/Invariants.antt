use Rattle.std.proofs.Common.{length}
use Rattle.xw_words.specs.Index.{word_in}
use Rattle.xw_words.proofs.IndexLemmas.{IsReached}
use Rattle.xw_words.proofs.index.Index.find.Given as goal

-- the words of the bucket from the link on are others
abbrev pub invariant-loop-link : goal.invariant-loop-link
invariant-loop-link l = IsReached (word_in (length l.word) l.letters) (length l.self.heads) (length l.self.earlier) l.word l.link

abbrev pub decreases-loop-link : goal.decreases-loop-link
decreases-loop-link l = l.link
