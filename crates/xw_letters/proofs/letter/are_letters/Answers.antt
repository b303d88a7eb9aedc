use Rattle.std.proofs.Common.{ℕ, ◌∙◌, subst}
use Rattle.std.proofs.lemmas.List.{take_all}
use Rattle.std.proofs.lemmas.List.Elements.{All-more}
use Rattle.xw_letters.specs.Letter.{IsLetter}
use Rattle.xw_letters.proofs.letter.are_letters.Goals as goal

pub loop-letter-preserved : goal.loop-letter-preserved
loop-letter-preserved c =
    All-more IsLetter c.args.word.now c.loop-letter.letter-index c.letter-item.result c.loop-letter-test.true c.loop-letter.invariant
    (let P : ℕ → Type 0 = λ code. IsLetter code in subst P (c.byte.ensures.code ∙ c.letter-item.is) c.byte.ensures.letter)

pub returns : goal.returns
returns c = rw (take_all c.loop-letter.letter-index c.args.word.now c.loop-letter-test.false) at c.loop-letter.invariant
