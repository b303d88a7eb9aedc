use Rattle.std.proofs.Common.{◌∙◌, sym}
use Rattle.xw_lines.proofs.TriesLemmas.{ended, keeps_on, waits_on}
use Rattle.xw_lines.proofs.standard.write_retrying.Goals as goal

pub returns-then-not-is_interrupted-clause-tries : goal.returns-then-not-is_interrupted-clause-tries
returns-then-not-is_interrupted-clause-tries g c =
    ended _ _ _ _ _ (sym c.is_interrupted.ensures ∙ c.if-not-is_interrupted.true) c.write_once-taken.ensures.tries c.loop.invariant.interrupted

pub loop-preserved : goal.loop-preserved
loop-preserved g c =
    let is = sym c.is_interrupted.ensures ∙ c.if-not-is_interrupted.false in
    record { kept = keeps_on _ _ _ _ c.args.bytes.now is c.loop.invariant.kept c.write_once-taken.ensures.bytes; interrupted = waits_on _ _ _ _ is c.write_once-taken.ensures.tries c.loop.invariant.interrupted }
