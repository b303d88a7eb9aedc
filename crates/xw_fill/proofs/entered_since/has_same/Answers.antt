use Rattle.std.proofs.Common.{◌<◌, sym, ◌∙◌, arith}
use Rattle.std.proofs.lemmas.Bool.{and_from}
use Rattle.xw_search.specs.Position.{position_of}
use Rattle.xw_search.specs.Lights.{light_count}
use Rattle.xw_fill.proofs.RepeatLemmas.{again-from}
use Rattle.xw_fill.proofs.entered_since.has_same.Goals as goal

pub returns-then-agree : goal.returns-then-agree
returns-then-agree g c =
    let position = position_of (g.E.Feasible.state c.args.engine.now) in
    let other_in : c.loop-other.other < light_count position = omega (arith, c.loop-other-test.true, c.light_count-other-end.ensures) in
    let other_entered = sym (c.requires.noted c.loop-other.other other_in) ∙ sym c.is_some.ensures ∙ c.if-is_some.true in
    sym (again-from position c.args.light c.loop-other.other c.if-other-light.true other_in
    (and_from _ _ c.requires.entered (and_from _ _ other_entered (sym c.agree.ensures ∙ c.if-agree.true))))
