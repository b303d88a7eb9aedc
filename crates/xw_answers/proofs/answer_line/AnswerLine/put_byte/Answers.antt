use Rattle.std.proofs.Common.{[], ◌∷◌}
use Rattle.std.proofs.lemmas.Result.{err_from_is_err_and}
use Rattle.xw_answers.proofs.Gathering.{gathers-stops}
use Rattle.xw_answers.proofs.answer_line.AnswerLine.put_byte.Goals as goal

pub returns-in_err-make_room : goal.returns-in_err-make_room
returns-in_err-make_room g c =
    let e = err_from_is_err_and c.from_residual.result c.from_residual.ensures.1 in
    rw e.1 (gathers-stops g.W.Sink.transcript g.W.Sink.failures c.args.sink.now c.make_room.new.sink c.args.self.now [] (c.args.byte ∷ []) c.in_err-make_room.ensures.gathers)
