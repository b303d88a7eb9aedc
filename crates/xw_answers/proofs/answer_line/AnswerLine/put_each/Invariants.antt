use Rattle.std.proofs.Common.{take}
use Rattle.std.specs.Prelude.{Ok}
use Rattle.xw_lines.specs.Sends.{Gathers}
use Rattle.xw_answers.proofs.answer_line.AnswerLine.put_each.Given as goal

-- the first letters are appended
abbrev pub invariant-loop-letter : goal.invariant-loop-letter
invariant-loop-letter g l =
    Gathers {T = Unit {0}} {E = Unit {0}} g.W.Sink.transcript g.W.Sink.failures l.initial.sink l.sink l.initial.self l.self (Ok (tt {0})) (take l.letter-index l.letters)
