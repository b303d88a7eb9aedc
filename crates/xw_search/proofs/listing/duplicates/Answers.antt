use Rattle.std.proofs.Common.{sym, ◌∙◌, arith}
use Rattle.std.proofs.lemmas.Grind.{common_steps}
use Rattle.xw_search.specs.Position.{position_of}
use Rattle.xw_search.specs.Lights.{spell_same}
use Rattle.xw_search.proofs.BelowLemmas.{first_below-some}
use Rattle.xw_search.proofs.listing.duplicates.Goals as goal

pub name_at-requires-in-Some : goal.name_at-requires-in-Some
name_at-requires-in-Some g c =
    let found = first_below-some (spell_same (position_of (g.E.Feasible.state c.args.engine.now)) c.loop-light.light) c.loop-light.light c.in-Some.first (sym c.first_same.ensures ∙ c.in-Some.is) in
    omega (arith, found.0, c.loop-light-test.true, c.light_count-light-end.ensures)

pub loop-light-preserved : goal.loop-light-preserved
loop-light-preserved g c = grind (arith, common_steps)
