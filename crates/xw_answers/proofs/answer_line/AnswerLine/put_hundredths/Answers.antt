use Rattle.std.proofs.Common.{◌+◌, [], ◌∷◌}
use Rattle.std.specs.Prelude.{◌/◌, ◌%◌, decimal}
use Rattle.std.proofs.lemmas.Result.{err_from_is_err_and}
use Rattle.xw_answers.proofs.Gathering.{gathers-then, gathers-stops}
use Rattle.xw_answers.proofs.answer_line.AnswerLine.put_hundredths.Goals as goal

pub returns-in_err-put_number : goal.returns-in_err-put_number
returns-in_err-put_number g c =
    let e = err_from_is_err_and c.from_residual.result c.from_residual.ensures.1 in
    let h = c.args.number in
    rw e.1 (gathers-stops g.W.Sink.transcript g.W.Sink.failures c.args.sink.now c.put_number.new.sink c.args.self.now (decimal (h / 100)) (46 ∷ (48 + h / 10 % 10) ∷ (48 + h % 10) ∷ []) c.in_err-put_number.ensures)

pub returns : goal.returns
returns g c =
    let h = c.args.number in
    gathers-then g.W.Sink.transcript g.W.Sink.failures (Unit {0}) c.args.sink.now c.put_number.new.sink c.put.new.sink c.args.self.now c.put_number.new.self c.put.new.self
    (decimal (h / 100)) (46 ∷ (48 + h / 10 % 10) ∷ (48 + h % 10) ∷ []) c.put.result c.in_ok-put_number.ensures c.put.ensures
