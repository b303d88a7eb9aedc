use Rattle.std.proofs.Common.{◌≡◌, false, List, [], ◌∷◌, ◌++◌, sym, ap, ◌∙◌, subst, inr}
use Rattle.std.specs.Prelude.{Ok, IfNone, IfSome}
use Rattle.std.proofs.lemmas.List.{same_from_push}
use Rattle.xw_feas.specs.State.{State}
use Rattle.xw_feas.specs.Trying.{levels_after}
use Rattle.xw_search.specs.Progress.{AreAlive, IsTried}
use Rattle.xw_search.specs.NamedFill.{flags}
use Rattle.xw_search.specs.Position.{position_of}
use Rattle.xw_search.proofs.StackLemmas.{taken_last}
use Rattle.xw_search.proofs.StateLemmas.{DiffersInEntries-then}
use Rattle.xw_search.proofs.TryingLemmas.{frame_placed, frame_refuted}
use Rattle.xw_search.proofs.run.try_letter.Goals as goal

pub returns-then-has_repeat_at-clause-entries : goal.returns-then-has_repeat_at-clause-entries
returns-then-has_repeat_at-clause-entries g c =
    DiffersInEntries-then (g.E.Feasible.state c.args.engine.now) (g.E.Feasible.state c.try_place.new.engine) (g.E.Feasible.state c.back.new.engine) c.try_place.ensures.entries c.back.ensures.entries

pub returns-then-has_repeat_at-clause-start : goal.returns-then-has_repeat_at-clause-start
returns-then-has_repeat_at-clause-start g c = c.back.ensures.start ∙ c.try_place.ensures.start

pub returns-then-has_repeat_at-clause-tried : goal.returns-then-has_repeat_at-clause-tried
returns-then-has_repeat_at-clause-tried g c =
    let before = g.E.Feasible.state c.args.engine.now in
    let there = g.E.Feasible.state c.try_place.new.engine in
    let after = g.E.Feasible.state c.back.new.engine in
    let olds = c.args.stack.now.placements.items in
    let frame = c.args.frame in
    let levels : List State = g.E.Searchable.levels c.args.engine.now in
    let levels_there : List State = g.E.Searchable.levels c.try_place.new.engine in
    let levels_after_it : List State = g.E.Searchable.levels c.back.new.engine in
    let placed = frame_placed _ frame before there olds c.try_place.new.self.placements.items c.in_ok-dead.dead c.in_default.is c.in_ok-dead.ensures.tried in
    let taken = taken_last olds c.back.new.self.placements.items frame c.back.result (sym placed.0 ∙ c.back.ensures.placements) (subst (λ items. IfNone c.back.result (items ≡ [])) placed.0 c.back.ensures.none) in
    let more : levels_there ≡ levels ++ before ∷ [] = c.try_place.ensures.levels ∙ ap (levels_after levels before) (c.in_ok-dead.was ∙ ap Ok c.in_default.is) in
    let back : levels_there ≡ levels_after_it ++ after ∷ [] = subst (λ last. IfSome last (λ f. levels_there ≡ levels_after_it ++ after ∷ [])) taken.1 c.back.ensures.levels in
    let same = same_from_push levels levels_after_it before after (sym more ∙ back) in
    (taken.0, sym same.1, (there, placed.1, inr (c.has_repeat_at.ensures.yes c.if-has_repeat_at.true)))

pub returns-clause-tried : goal.returns-clause-tried
returns-clause-tried g c =
    let before = g.E.Feasible.state c.args.engine.now in
    let there = g.E.Feasible.state c.try_place.new.engine in
    let placed = frame_placed _ c.args.frame before there c.args.stack.now.placements.items c.try_place.new.self.placements.items c.in_ok-dead.dead c.in_default.is c.in_ok-dead.ensures.tried in
    let alive = placed.2 (subst (λ list. AreAlive (flags list) (position_of before)) (sym c.deref.ensures.value) c.requires.alive) in
    (placed.0, placed.1, subst (λ list. AreAlive (flags list) (position_of there)) c.deref.ensures.value alive, c.has_repeat_at.ensures.no c.if-has_repeat_at.false)

pub returns-in-Some-clause-tried : goal.returns-in-Some-clause-tried
returns-in-Some-clause-tried g c =
    subst (λ list. IsTried (flags list) c.args.frame false (g.E.Feasible.state c.args.engine.now) c.args.stack.now.placements.items (g.E.Feasible.state c.try_place.new.engine) c.try_place.new.self.placements.items) c.deref.ensures.value
    (frame_refuted _ c.args.frame (g.E.Feasible.state c.args.engine.now) (g.E.Feasible.state c.try_place.new.engine) c.args.stack.now.placements.items c.try_place.new.self.placements.items c.in_ok-dead.dead c.in-Some.light c.in-Some.is c.in_ok-dead.ensures.tried)
