use Rattle.std.proofs.Common.{arith, ◌<◌, length, take, ◌++◌, append_assoc, ap, ◌∙◌}
use Rattle.xw_lines.specs.Spoken.{HasFailedFor}
use Rattle.xw_lines.proofs.Broken.{broken-early, broken-run}
use Rattle.xw_lines.proofs.Texts.{transcript-nothing}
use Rattle.xw_lines.proofs.run.answer_ended.Goals as goal

pub returns-in-Ok-eq0-clause-ok : goal.returns-in-Ok-eq0-clause-ok
returns-in-Ok-eq0-clause-ok g c =
    let text = c.loop-turn.invariant.0 in
    let kept = c.loop-turn.invariant.1 in
    let room : 0 < length c.read.new.buffer = omega arith in
    let transcript = transcript-nothing (g.R.Source.transcript c.args.source.now) _ _ text _ _ kept.transcript c.in-Ok-eq0.field-0-test c.in-Ok-eq0.ensures.transcript in
    record {
      text = text;
      passed = transcript;
      at_end = c.in-Ok-eq0.ensures.end c.in-Ok-eq0.field-0-test room;
      goes_on = kept.goes-on;
      unfailed = c.in-Ok-eq0.ensures.failures ∙ kept.unfailed;
      quiet = kept.quiet;
    }

pub returns-in-Err-take_bytes-clause-err : goal.returns-in-Err-take_bytes-clause-err
returns-in-Err-take_bytes-clause-err g c =
    let text = c.loop-turn.invariant.0 in
    let kept = c.loop-turn.invariant.1 in
    let fault = c.in-Err-take_bytes.fault in
    let failed : HasFailedFor fault (g.W.Sink.failures c.args.sink.now) (g.W.Sink.failures c.take_bytes.new.sink) = rw (← kept.quiet) c.in-Err-take_bytes.ensures.failed in
    let bytes = take c.in-Ok-read.count c.read.new.buffer in
    let transcript = c.in-Ok-read.ensures.transcript ∙ ap (λ xs. xs ++ bytes) kept.transcript ∙ append_assoc (g.R.Source.transcript c.args.source.now) text bytes in
    rw c.broken.ensures
    (broken-run g.S.LineHandler.answers g.S.LineHandler.stops g.R.Source.transcript g.R.Source.is_at_end g.R.Source.failures g.W.Sink.transcript g.W.Sink.failures
    _ _ _ _ _ _ (text ++ bytes) transcript (c.in-Ok-read.ensures.failures ∙ kept.unfailed) fault failed
    (c.in-Err-take_bytes.ensures.err c.args.handler.now (g.W.Sink.transcript c.args.sink.now) text kept.goes-on))

pub returns-in-Err-take_bytes-clause-early : goal.returns-in-Err-take_bytes-clause-early
returns-in-Err-take_bytes-clause-early g c = rw c.broken.ensures (broken-early c.in-Err-take_bytes.fault)
