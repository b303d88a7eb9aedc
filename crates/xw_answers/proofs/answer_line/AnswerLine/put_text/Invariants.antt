use Rattle.std.proofs.Common.{take, flat_map, length}
use Rattle.std.specs.Prelude.{Ok}
use Rattle.std.specs.List.{range_with_len}
use Rattle.xw_lines.specs.Sends.{Gathers}
use Rattle.xw_answers.specs.Escape.{spelled_at}
use Rattle.xw_answers.proofs.answer_line.AnswerLine.put_text.Given as goal

-- the first bytes are appended
abbrev pub invariant-loop-index : goal.invariant-loop-index
invariant-loop-index g l =
    Gathers {T = Unit {0}} {E = Unit {0}} g.W.Sink.transcript g.W.Sink.failures l.initial.sink l.sink l.initial.self l.self (Ok (tt {0}))
    (flat_map (spelled_at l.text) (take l.index (range_with_len 0 (length l.text))))
