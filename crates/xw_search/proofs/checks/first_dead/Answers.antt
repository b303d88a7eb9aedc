use Rattle.std.proofs.Common.{◌≡◌, ◌∙◌, sym, arith, true, false}
use Rattle.std.proofs.lemmas.Bool.{true≢false}
use Rattle.xw_search.specs.Position.{position_of}
use Rattle.xw_search.specs.Lights.{lacks_words}
use Rattle.xw_search.proofs.LightLemmas.{lacks_words-some}
use Rattle.xw_search.specs.NamedFill.{flags}
use Rattle.xw_search.proofs.PlanLemmas.{one_more}
use Rattle.xw_search.proofs.checks.first_dead.Goals.{else-watched-light-via-then-watched-light+else-word_count-eq0, else-watched-light-via-else-watched-light}
use Rattle.xw_search.proofs.checks.first_dead.Goals as goal

pub loop-light-init : goal.loop-light-init
loop-light-init g c k below watched = absurd (omega arith)

pub loop-light-preserved : goal.loop-light-preserved
loop-light-preserved g c =
    let position = position_of (g.E.Feasible.state c.args.engine.now) in
    one_more (λ k. flags c.args.watched.now k ≡ true → lacks_words position k ≡ false) c.loop-light.light c.loop-light.invariant
    (λ watched. elim c.else-watched-light.branch [
      | else-watched-light-via-then-watched-light+else-word_count-eq0 w ↦ lacks_words-some position c.loop-light.light w.word_count.result w.word_count.ensures w.if-word_count-eq0.false
      | else-watched-light-via-else-watched-light w ↦ absurd (true≢false (sym watched ∙ w.if-watched-light.false))
    ])

pub returns-clause-alive : goal.returns-clause-alive
returns-clause-alive g c light below watched = c.loop-light.invariant light (omega (arith, below, c.loop-light-test.false, c.light_count-light-end.ensures)) watched
