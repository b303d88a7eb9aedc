use Rattle.xw_letters.specs.LetterSet.{letters_in}
use Rattle.xw_answers.specs.Text.{change_line}
use Rattle.xw_answers.proofs.Gathering.{gathers-end}
use Rattle.xw_answers.proofs.text.write_change.Goals as goal

pub returns : goal.returns
returns g c =
    gathers-end g.W.Sink.transcript g.W.Sink.failures (Unit {0}) c.args.sink.now c.put_change.new.sink c.send.new.sink c.put_change.new.line (change_line (c.args.cell, letters_in c.args.letters)) c.send.result
    (rw c.new-line.ensures at c.in_ok-put_change.ensures) c.send.ensures.sends
