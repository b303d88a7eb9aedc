use Rattle.std.proofs.Common.{◌≡◌, ◌∙◌, refl, sym, ap, arith}
use Rattle.xw_search.specs.Position.{position_of}
use Rattle.xw_search.specs.Below.{any_below}
use Rattle.xw_search.specs.Lights.{light_count}
use Rattle.xw_search.proofs.CheckLemmas.{is_twin, any_below-more, again-not_entered, again-here, twin-itself, twin-apart}
use Rattle.xw_search.proofs.checks.is_spelled_again.Goals.{else-other-light-via-then-other-light+else-spell_same, else-other-light-via-else-other-light}
use Rattle.xw_search.proofs.checks.is_spelled_again.Goals as goal

pub returns-then-not-is_entered : goal.returns-then-not-is_entered
returns-then-not-is_entered g c = sym (again-not_entered (position_of (g.E.Feasible.state c.args.engine.now)) c.args.light (sym c.is_entered.ensures ∙ c.if-not-is_entered.true))

pub loop-other-init : goal.loop-other-init
loop-other-init g c = refl

pub returns-then-spell_same : goal.returns-then-spell_same
returns-then-spell_same g c =
    let position = position_of (g.E.Feasible.state c.args.engine.now) in
    sym (again-here position c.args.light c.loop-other.other (omega (arith, c.loop-other-test.true, c.light_count-other-end.ensures)) c.if-other-light.true (sym c.spell_same.ensures ∙ c.if-spell_same.true))

pub loop-other-preserved : goal.loop-other-preserved
loop-other-preserved g c =
    let position = position_of (g.E.Feasible.state c.args.engine.now) in
    any_below-more (is_twin position c.args.light) c.loop-other.other c.loop-other.invariant (elim c.else-other-light.branch [
      | else-other-light-via-then-other-light+else-spell_same w ↦ twin-apart position c.args.light c.loop-other.other (sym w.spell_same.ensures ∙ w.if-spell_same.false)
      | else-other-light-via-else-other-light w ↦ twin-itself position c.args.light c.loop-other.other w.if-other-light.false
    ])

pub returns : goal.returns
returns g c =
    let position = position_of (g.E.Feasible.state c.args.engine.now) in
    let all : c.loop-other.other ≡ light_count position = omega (arith, c.loop-other.auto.other-end, c.loop-other-test.false, c.light_count-other-end.ensures) in
    sym c.loop-other.invariant ∙ ap (any_below (is_twin position c.args.light)) all
