use Rattle.std.proofs.Common.{◌≡◌, ◌<◌, ◌∙◌, ℕ, false, get_or, [], sym, subst}
use Rattle.std.specs.Prelude.{IfSome}
use Rattle.xw_feas.specs.State.{State}
use Rattle.xw_search.specs.Position.{position_of}
use Rattle.xw_search.specs.Lights.{light_count, is_entered}
use Rattle.xw_fill.specs.Choices.{fewest_after}
use Rattle.xw_fill.specs.Suggesting.{IsTriedAt}
use Rattle.xw_fill.specs.Words.{spellings_at}
use Rattle.xw_lines.specs.Sends.{Sends}
use Rattle.xw_session.specs.Choices.{choice_lines}
use Rattle.xw_session.proofs.session.choosing.write_unentered.Goals as goal

pub write_choices-written-requires-clause-light : goal.write_choices-written-requires-clause-light
write_choices-written-requires-clause-light g c = subst (λ (s : State). c.args.light < light_count (position_of s)) (sym c.fewest_after_any-any.ensures.unchanged) c.requires.light

pub write_choices-written-requires-clause-not_entered : goal.write_choices-written-requires-clause-not_entered
write_choices-written-requires-clause-not_entered g c = subst (λ (s : State). is_entered (position_of s) c.args.light ≡ false) (sym c.fewest_after_any-any.ensures.unchanged) c.requires.not_entered

pub write_choices-written-requires-clause-any : goal.write_choices-written-requires-clause-any
write_choices-written-requires-clause-any g c =
    let light = c.args.light in
    subst (λ (s : State). IfSome c.fewest_after_any-any.result (λ fewest. (index : ℕ) → IsTriedAt (position_of s) light index → fewest ≡ fewest_after s light (get_or (spellings_at (position_of s) light) index [])))
    (sym c.fewest_after_any-any.ensures.unchanged) c.fewest_after_any-any.ensures.fewest

pub returns-clause-sends : goal.returns-clause-sends
returns-clause-sends g c =
    subst (λ (s : State). Sends g.W.Sink.transcript g.W.Sink.failures c.args.sink.now c.write_choices-written.new.sink c.write_choices-written.result (choice_lines s c.args.light c.args.first c.args.most)) c.fewest_after_any-any.ensures.unchanged c.write_choices-written.ensures.sends

pub returns-clause-unchanged : goal.returns-clause-unchanged
returns-clause-unchanged g c = c.write_choices-written.ensures.unchanged ∙ c.fewest_after_any-any.ensures.unchanged
