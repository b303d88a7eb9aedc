use Rattle.std.proofs.Common.{◌∙◌, ap, length}
use Rattle.xw_letters.specs.LetterSet.{letters_in}
use Rattle.xw_letters.proofs.LetterBits.{letters_counted}
use Rattle.xw_letters.proofs.letter_set.LetterSet.len.Goals as goal

pub returns : goal.returns
returns c = letters_counted c.self.inside.bits c.self.invariant ∙ ap (λ set. length (letters_in set)) c.self.view_is
