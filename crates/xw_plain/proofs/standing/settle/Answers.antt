use Rattle.std.proofs.lemmas.Grind.{common_steps}
use Rattle.std.proofs.Common.{arith}
use Rattle.xw_feas.proofs.Support.{exact_when_none_unsupported}
use Rattle.xw_feas.proofs.AnswersLemmas.{AreAnswers-rows}
use Rattle.xw_plain.proofs.standing.settle.Goals as goal

pub returns-clause-exact : goal.returns-clause-exact
returns-clause-exact c =
    let kept = c.loop-removed.invariant in
    exact_when_none_unsupported _ _ _ _ kept.covers kept.within (kept.supported c.loop-removed-test.false)

pub returns-clause-answers : goal.returns-clause-answers
returns-clause-answers c =
    let kept = c.loop-removed.invariant in
    AreAnswers-rows _ _ _ _ kept.rows (exact_when_none_unsupported _ _ _ _ kept.covers kept.within (kept.supported c.loop-removed-test.false))

pub loop-removed-init : goal.loop-removed-init
loop-removed-init c = grind (arith, common_steps)
