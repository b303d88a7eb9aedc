use Rattle.std.proofs.Common.{◌≡◌, ◌++◌, ℕ, List}
use Rattle.std.specs.Prelude.{Ok}
use Rattle.xw_letters.specs.LetterSet.{letters_in}
use Rattle.xw_lines.specs.Sends.{Gathers}
use Rattle.xw_answers.proofs.answer_line.AnswerLine.put_set.Given as goal

-- the first letters are appended, and the iterator has the others
abbrev pub invariant-loop-letter : goal.invariant-loop-letter
invariant-loop-letter g l = (put : List ℕ) × record {
  parts : letters_in l.fn.set ≡ put ++ l.letter-iterator;
  put : Gathers {T = Unit {0}} {E = Unit {0}} g.W.Sink.transcript g.W.Sink.failures l.initial.sink l.sink l.initial.self l.self (Ok (tt {0})) put;
}
