use Rattle.std.proofs.Common.{◌≡◌, ◌++◌, ◌∙◌, ap}
use Rattle.std.proofs.lemmas.Result.{err_from_is_err_and}
use Rattle.xw_lines.proofs.SendsLemmas.{stops-within}
use Rattle.xw_answers.proofs.Gathering.{gathers-sent}
use Rattle.xw_answers.proofs.answer_line.AnswerLine.put.Goals as goal

pub returns-in_err-send : goal.returns-in_err-send
returns-in_err-send g c =
    let e = err_from_is_err_and c.from_residual.result c.from_residual.ensures.1 in
    rw e.1 (rw (← (c.push.ensures.full c.if-push.false)) (stops-within g.W.Sink.transcript g.W.Sink.failures _ _ _ _ c.in_err-send.ensures.sends))

pub returns : goal.returns
returns g c =
    let sent = c.in_ok-send.ensures.sends in
    let kept = c.push.ensures.full c.if-push.false in
    let before : g.W.Sink.transcript c.send.new.sink ≡ g.W.Sink.transcript c.args.sink.now ++ c.args.self.now = sent.0 ∙ ap (λ line. g.W.Sink.transcript c.args.sink.now ++ line) kept in
    rw c.in_ok-send.ensures.cleared
    (gathers-sent g.W.Sink.transcript g.W.Sink.failures c.args.sink.now c.send.new.sink c.write_all.new.sink c.args.self.now c.args.bytes.now c.write_all.result (before, sent.1) c.write_all.ensures)
