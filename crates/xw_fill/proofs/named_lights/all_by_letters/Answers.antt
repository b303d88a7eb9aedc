use Rattle.std.proofs.Common.{◌≡◌, ℕ, ◌<◌, true, ap, ◌∙◌}
use Rattle.std.proofs.lemmas.List.{get_or-replicate}
use Rattle.xw_search.specs.Position.{position_of}
use Rattle.xw_search.specs.Lights.{light_count}
use Rattle.xw_search.specs.NamedFill.{flags}
use Rattle.xw_fill.proofs.Naming.{if_ok_same}
use Rattle.xw_search.proofs.AllowanceLemmas.{counted_granted}
use Rattle.xw_fill.proofs.named_lights.all_by_letters.Goals as goal

pub returns-clause-ok : goal.returns-clause-ok
returns-clause-ok g c =
    let before = g.E.Feasible.state c.args.engine.now in
    let after = g.E.Feasible.state c.fill_flagged.new.engine in
    let named = c.in_ok-named.named in
    let all : (light : ℕ) → light < light_count (position_of before) → flags named.items light ≡ true = λ light in_grid. ap (λ list. flags list light) c.in_ok-named.ensures ∙ get_or-replicate (light_count (position_of before)) light true _ in_grid in
    if_ok_same (flags named.items) (λ light. true) before after c.fill_flagged.result all c.fill_flagged.ensures.ok

pub returns-clause-counted : goal.returns-clause-counted
returns-clause-counted g c =
    counted_granted c.args.allowance.now c.grant_all.new.self c.fill_flagged.new.allowance (g.E.Feasible.state c.args.engine.now) (g.E.Feasible.state c.fill_flagged.new.engine) c.grant_all.ensures.made c.grant_all.ensures.limit c.fill_flagged.ensures.counted

pub returns-clause-limit : goal.returns-clause-limit
returns-clause-limit g c is = c.fill_flagged.ensures.limit is ∙ c.grant_all.ensures.until
