use Rattle.xw_lines.proofs.Broken.{run-read}
use Rattle.xw_lines.proofs.run.run_lines.Goals as goal

pub returns-in-Ok : goal.returns-in-Ok
returns-in-Ok g c =
    let read = c.in-Ok.ensures.ok in
    run-read g.S.LineHandler.answers g.S.LineHandler.stops g.R.Source.transcript g.R.Source.is_at_end g.R.Source.failures g.W.Sink.transcript g.W.Sink.failures c.answer_rest.result _ _ _ _ _ _ _ _ _ _ read
    (c.answer_rest.ensures c.args.handler.now (g.W.Sink.transcript c.args.sink.now) read.text read.goes_on)
