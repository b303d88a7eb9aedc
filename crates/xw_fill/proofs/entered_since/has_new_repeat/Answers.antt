use Rattle.std.proofs.Common.{◌≡◌, ◌<◌, false, sym, ◌∙◌, ap, arith, inl, inr}
use Rattle.std.proofs.lemmas.Bool.{false≢true, cases_eq}
use Rattle.xw_search.specs.Position.{position_of}
use Rattle.xw_search.specs.Lights.{light_count, is_spelled_again}
use Rattle.xw_fill.specs.Inner.EnteredSince.{noted}
use Rattle.xw_fill.proofs.RepeatLemmas.{not_again, no_new_repeat}
use Rattle.xw_search.proofs.RepeatLemmas.{repeat_again}
use Rattle.xw_fill.proofs.entered_since.has_new_repeat.Goals as goal
use Rattle.xw_fill.proofs.entered_since.has_new_repeat.Goals.{then-is_some+then-not-is_within+else-has_same, else-is_some, else-is_some-via-then-is_some+else-not-is_within, else-is_some-via-else-is_some}

pub returns-then-has_same : goal.returns-then-has_same
returns-then-has_same g c = sym (repeat_again (position_of (g.E.Feasible.state c.args.engine.now)) c.loop-light.light (omega (arith, c.loop-light-test.true, c.light_count-light-end.ensures)) (sym c.has_same.ensures ∙ c.if-has_same.true))

pub loop-light-preserved : goal.loop-light-preserved
loop-light-preserved g c = λ k below missed. elim (cases_eq k c.loop-light.light) [
  | inr earlier ↦ c.loop-light.invariant k (omega arith) missed
  | inl here ↦
      let position = position_of (g.E.Feasible.state c.args.engine.now) in
      let missed_here : noted c.args.since.now c.args.placements c.loop-light.light ≡ false = ap (noted c.args.since.now c.args.placements) (sym here) ∙ missed in
      ap (is_spelled_again position) here ∙ (elim c.if-is_some.branch [
        | then-is_some+then-not-is_within+else-has_same w ↦ sym w.has_same.ensures ∙ w.if-has_same.false
        | else-is_some w ↦ elim w.else-is_some.branch [
          | else-is_some-via-then-is_some+else-not-is_within w' ↦ absurd (false≢true (sym missed_here ∙ sym w'.is_within.ensures ∙ w'.if-not-is_within.false))
          | else-is_some-via-else-is_some w' ↦
              let in_grid : c.loop-light.light < light_count position = omega (arith, c.loop-light-test.true, c.light_count-light-end.ensures) in
              not_again position c.loop-light.light (sym (c.requires.noted c.loop-light.light in_grid) ∙ sym c.is_some.ensures ∙ w'.if-is_some.false)
        ]
      ])
]

pub returns : goal.returns
returns g c = sym (no_new_repeat (position_of (g.E.Feasible.state c.args.engine.now)) (noted c.args.since.now c.args.placements) c.requires.apart (λ light below. c.loop-light.invariant light (omega (arith, below, c.loop-light-test.false, c.light_count-light-end.ensures))))
