use Rattle.std.proofs.Common.{◌≡◌, ◌∙◌, sym, arith, true, false}
use Rattle.std.proofs.lemmas.Bool.{true≢false}
use Rattle.xw_search.specs.Position.{position_of}
use Rattle.xw_search.specs.Listing.{is_unlisted}
use Rattle.xw_search.specs.NamedFill.{flags}
use Rattle.xw_search.proofs.PlanLemmas.{one_more}
use Rattle.xw_best.proofs.best.candidate.are_listed.Goals.{else-flagged-light-via-then-flagged-light+else-is_unlisted, else-flagged-light-via-else-flagged-light}
use Rattle.xw_best.proofs.best.candidate.are_listed.Goals as goal

pub loop-light-init : goal.loop-light-init
loop-light-init g c k below flag = absurd (omega (arith, below))

pub loop-light-preserved : goal.loop-light-preserved
loop-light-preserved g c =
    let position = position_of (g.E.Feasible.state c.args.engine.now) in
    one_more (λ k. flags c.args.flagged.now k ≡ true → is_unlisted position k ≡ false) c.loop-light.light c.loop-light.invariant
    (λ flag. elim c.else-flagged-light.branch [
      | else-flagged-light-via-then-flagged-light+else-is_unlisted w ↦ sym w.is_unlisted.ensures ∙ w.if-is_unlisted.false
      | else-flagged-light-via-else-flagged-light w ↦ absurd (true≢false (sym flag ∙ w.if-flagged-light.false))
    ])

pub returns : goal.returns
returns g c told light below flag = c.loop-light.invariant light (omega (arith, below, c.loop-light-test.false, c.light_count-light-end.ensures)) flag
