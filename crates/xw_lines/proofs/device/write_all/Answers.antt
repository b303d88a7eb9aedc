use Rattle.std.proofs.Common.{arith, rules, ◌<◌, ◌∙◌, take, length-take, length-drop}
use Rattle.xw_lines.proofs.Texts.{transcript-grows, transcript-nothing, begins-at}
use Rattle.xw_lines.proofs.device.write_all.Goals as goal

pub loop-written-preserved : goal.loop-written-preserved
loop-written-preserved g c =
    let some : 0 < c.in-Ok.count = omega arith in
    record {
      within = omega (arith, simp (length-take, length-drop) at c.in-Ok.ensures.bound);
      transcript = transcript-grows _ _ _ _ _ _ c.loop-written.invariant.transcript c.in-Ok.ensures.transcript;
      quiet = c.in-Ok.ensures.ok some ∙ c.loop-written.invariant.quiet;
    }

pub returns-in-Ok-eq0 : goal.returns-in-Ok-eq0
returns-in-Ok-eq0 g c = (
  begins-at (g.W.Sink.transcript c.args.sink.now) _ c.args.bytes.now c.loop-written.written
      (transcript-nothing (g.W.Sink.transcript c.args.sink.now) _ _ (take c.loop-written.written c.args.bytes.now) _ _ c.loop-written.invariant.transcript c.in-Ok-eq0.field-0-test c.in-Ok-eq0.ensures.transcript),
  search (rules, length-take, length-drop),
)

pub returns-in-Err : goal.returns-in-Err
returns-in-Err g c = (
  begins-at (g.W.Sink.transcript c.args.sink.now) _ c.args.bytes.now c.loop-written.written (c.in-Err.ensures.transcript ∙ c.loop-written.invariant.transcript),
  search rules,
)
