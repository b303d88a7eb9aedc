use Rattle.std.proofs.Common.{length}
use Rattle.xw_answers.proofs.answer_line.AnswerLine.+put_line.Given as goal

abbrev pub decreases-put_line : goal.decreases-put_line
decreases-put_line g l = length l.words.now
