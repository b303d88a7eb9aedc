use Rattle.std.proofs.Common.{[], ◌∷◌, ◌++◌, sym, ap, ◌∙◌, if◌then◌else◌}
use Rattle.std.specs.Result.{is_ok}
use Rattle.xw_search.specs.Position.{position_of, name_at}
use Rattle.xw_search.specs.Listing.{is_unlisted}
use Rattle.xw_search.proofs.ListingLemmas.{named-more, named-same}
use Rattle.xw_search.proofs.listing.unlisted.Goals.{then-is_unlisted+in_ok-push, else-is_unlisted}
use Rattle.xw_search.proofs.listing.unlisted.Goals as goal

pub loop-light-preserved : goal.loop-light-preserved
loop-light-preserved g c =
    let state = g.E.Feasible.state c.args.engine.now in
    let test = is_unlisted (position_of state) in
    let light = c.loop-light.light in
    let before = c.loop-light.lights.items in
    elim c.if-is_unlisted.branch [
      | then-is_unlisted+in_ok-push w ↦
          let is_pushed = ap is_ok w.in_ok-push.was in
          ap (λ lights. lights.items) w.lights-is ∙ w.push.ensures.items
          ∙ ap (λ pushed. if pushed then before ++ w.name_at.result ∷ [] else before) is_pushed
          ∙ ap (λ name. before ++ name ∷ []) w.name_at.ensures
          ∙ ap (λ names. names ++ name_at state light ∷ []) c.loop-light.invariant
          ∙ sym (named-more (name_at state) test light (sym w.if-is_unlisted.ensures))
      | else-is_unlisted w ↦
          ap (λ lights. lights.items) w.lights-is ∙ c.loop-light.invariant
          ∙ sym (named-same (name_at state) test light (sym w.if-is_unlisted.ensures))
    ]
