use Rattle.std.proofs.Common.{◌≡◌, ◌∷◌, ◌++◌, [], if◌then◌else◌, sym, ap, ◌∙◌, subst}
use Rattle.std.specs.Prelude.{Ok}
use Rattle.std.specs.Result.{is_ok}
use Rattle.xw_feas.specs.Trying.{levels_after}
use Rattle.xw_search.specs.Position.{DiffersInEntries}
use Rattle.xw_search.specs.NamedFill.{flags}
use Rattle.xw_search.specs.Stack.{HasLed, LeadThrough}
use Rattle.xw_search.proofs.StackLemmas.{lead_more}
use Rattle.xw_search.proofs.StateLemmas.{DiffersInEntries-itself}
use Rattle.xw_search.proofs.stack.Stack.try_place.Goals as goal

pub returns-in_err-push-clause-entries : goal.returns-in_err-push-clause-entries
returns-in_err-push-clause-entries g c = DiffersInEntries-itself (g.E.Feasible.state c.args.engine.now)

pub returns-in_default-clause-entries : goal.returns-in_default-clause-entries
returns-in_default-clause-entries g c =
    let before = g.E.Feasible.state c.args.engine.now in
    subst (DiffersInEntries before) (sym c.in_default.ensures.same) (DiffersInEntries-itself before)

pub returns-in-Some-clause-entries : goal.returns-in-Some-clause-entries
returns-in-Some-clause-entries g c =
    let before = g.E.Feasible.state c.args.engine.now in
    let after = g.E.Feasible.state c.try_place.new.engine in
    let led = subst (HasLed (g.M.Placement.is_placed c.args.placement before) (flags c.args.watched.now) before after) c.in-Some.is c.in-Ok.ensures.led in
    subst (DiffersInEntries before) (sym led.0) (DiffersInEntries-itself before)

pub returns-clause-stands : goal.returns-clause-stands
returns-clause-stands g c =
    let before = g.E.Feasible.state c.args.engine.now in
    let after = g.E.Feasible.state c.try_place.new.engine in
    let items = c.args.self.now.placements.items in
    let is_placed = g.M.Placement.is_placed in
    let led = subst (HasLed (is_placed c.args.placement before) (flags c.args.watched.now) before after) c.in_default-dead.is c.in-Ok.ensures.led in
    let pushed : c.push.new.self.items ≡ items ++ c.args.placement ∷ [] = c.push.ensures.items ∙ ap (λ b. if b then items ++ c.args.placement ∷ [] else items) (ap is_ok c.in_ok-push.was) in
    let levels = c.try_place.ensures.levels ∙ ap (levels_after (g.E.Searchable.levels c.args.engine.now) before) (c.in-Ok.is ∙ ap Ok c.in_default-dead.is) in
    subst (λ list. LeadThrough is_placed list (g.E.Searchable.levels c.try_place.new.engine) after) (sym pushed)
    (subst (λ states. LeadThrough is_placed (items ++ c.args.placement ∷ []) states after) (sym levels)
    (lead_more is_placed items c.args.placement (g.E.Searchable.levels c.args.engine.now) before after c.requires.stands led.0))
