use Rattle.std.proofs.Common.{◌++◌, ◌∙◌, ap, sym}
use Rattle.std.proofs.lemmas.Fmt.{decimal_digit}
use Rattle.xw_answers.proofs.answer_line.AnswerLine.push_digit.Goals as goal

pub returns : goal.returns
returns c = c.push_byte.ensures ∙ ap (λ xs. c.args.self.now ++ xs) (sym (decimal_digit c.args.digit c.requires.digit))
