use Rattle.std.proofs.Common.{◌≡◌, take}
use Rattle.std.specs.Prelude.{fold}
use Rattle.xw_words.specs.Index.{hashed}
use Rattle.xw_words.proofs.index.hash.Given as goal

abbrev pub invariant-loop-letter : goal.invariant-loop-letter
invariant-loop-letter l = l.hash ≡ fold hashed 0 (take l.letter-index l.word)
