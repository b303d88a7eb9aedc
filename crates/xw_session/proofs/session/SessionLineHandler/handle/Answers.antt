use Rattle.std.specs.Option.{option_map}
use Rattle.std.proofs.lemmas.Result.{err_from_is_err_and}
use Rattle.xw_session.proofs.Answering.{piece_answered, piece_broke_off}
use Rattle.xw_session.proofs.session.SessionLineHandler.handle.Goals as goal

pub returns-clause-ok : goal.returns-clause-ok
returns-clause-ok g c =
    piece_answered c.parse_held.result (option_map (λ bytes. bytes.now) c.args.line) c.parse_held.ensures g.W.Sink.transcript g.W.Sink.failures c.args.self.now c.execute.new.self _ c.args.sink.now c.execute.new.sink c.in_ok-step.ensures.answer

pub returns-in_err-step-clause-err : goal.returns-in_err-step-clause-err
returns-in_err-step-clause-err g c =
    let e = err_from_is_err_and c.from_residual.result c.from_residual.ensures.1 in
    rw (e.1, e.2) (piece_broke_off c.parse_held.result (option_map (λ bytes. bytes.now) c.args.line) c.parse_held.ensures g.W.Sink.transcript g.W.Sink.failures c.args.self.now c.execute.new.self _ c.args.sink.now c.execute.new.sink c.in_err-step.ensures.answer)
