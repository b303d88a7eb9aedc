use Rattle.std.proofs.Common.{map}
use Rattle.xw_answers.specs.Text.{line_of}
use Rattle.xw_answers.specs.Token.{token_bytes}
use Rattle.xw_answers.proofs.Gathering.{gathers-end}
use Rattle.xw_answers.proofs.answer_line.write_line.Goals as goal

pub returns : goal.returns
returns g c =
    gathers-end g.W.Sink.transcript g.W.Sink.failures (Unit {0}) c.args.sink.now c.put_line.new.sink c.send.new.sink c.put_line.new.self (line_of (map token_bytes c.args.words.now)) c.send.result
    (rw c.new-line.ensures at c.in_ok-put_line.ensures) c.send.ensures.sends
