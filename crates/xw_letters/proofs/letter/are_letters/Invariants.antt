use Rattle.std.proofs.Common.{take}
use Rattle.std.specs.Prelude.{All}
use Rattle.xw_letters.specs.Letter.{IsLetter}
use Rattle.xw_letters.proofs.letter.are_letters.Given as goal

abbrev pub invariant-loop-letter : goal.invariant-loop-letter
invariant-loop-letter l = All IsLetter (take l.letter-index l.word)
