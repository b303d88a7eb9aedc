use Rattle.std.proofs.Common.{◌+◌, arith, ◌∙◌, sym, subst}
use Rattle.std.proofs.lemmas.Bool.{true≢false}
use Rattle.xw_search.specs.NamedFill.{flags}
use Rattle.xw_best.proofs.LeastLemmas.{IsWorst, worst_same, worst_more}
use Rattle.xw_best.proofs.best.grades.worst_grade.Goals.{then-flagged-light+then-is_entered, else-flagged-light, else-flagged-light-via-then-flagged-light+else-is_entered, else-flagged-light-via-else-flagged-light}
use Rattle.xw_best.proofs.best.grades.worst_grade.Goals as goal

pub loop-light-preserved : goal.loop-light-preserved
loop-light-preserved g c =
    let state = g.E.Feasible.state c.args.engine.now in
    let flagged = flags c.args.flagged.now in
    let light = c.loop-light.light in
    let so_far = c.loop-light.invariant.worst in
    elim c.if-flagged-light.branch [
      | then-flagged-light+then-is_entered w ↦ record {
        worst = subst (IsWorst (light + 1) flagged state) (sym (w.worst-is ∙ w.min-worst.ensures))
            (worst_more light flagged state c.loop-light.worst w.grade_of.result w.if-flagged-light.true (sym w.is_entered.ensures ∙ w.if-is_entered.true) w.grade_of.ensures.active w.grade_of.ensures.reached so_far);
      }
      | else-flagged-light w ↦ record {
        worst = subst (IsWorst (light + 1) flagged state) (sym w.worst-is) (worst_same light flagged state c.loop-light.worst (elim w.else-flagged-light.branch [
          | else-flagged-light-via-then-flagged-light+else-is_entered w' ↦ λ flag entered. true≢false (sym entered ∙ sym w'.is_entered.ensures ∙ w'.if-is_entered.false)
          | else-flagged-light-via-else-flagged-light w' ↦ λ flag entered. true≢false (sym flag ∙ w'.if-flagged-light.false)
        ]) so_far);
      }
    ]

pub returns-clause-active : goal.returns-clause-active
returns-clause-active g c grade within are =
    c.loop-light.invariant.worst.active grade within (λ light below. are light (omega (arith, below, c.loop-light.auto.light-end, c.light_count-light-end.ensures)))

pub returns-clause-reached : goal.returns-clause-reached
returns-clause-reached g c grade other are below light in_grid =
    c.loop-light.invariant.worst.reached grade other (λ light below. are light (omega (arith, below, c.loop-light.auto.light-end, c.light_count-light-end.ensures))) below light (omega (arith, in_grid, c.loop-light-test.false, c.light_count-light-end.ensures))
