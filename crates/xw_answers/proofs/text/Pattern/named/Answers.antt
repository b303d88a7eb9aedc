use Rattle.std.proofs.Common.{sym, ◌∙◌}
use Rattle.xw_answers.proofs.LightTexts.{found_short}
use Rattle.xw_answers.proofs.text.Pattern.named.Goals as goal

pub new-requires-clause-short : goal.new-requires-clause-short
new-requires-clause-short c = (found_short c.args.grid.now c.args.lights.now c.in-Some.light _ c.requires c.well_formed-2.ensures (sym c.light_named.ensures ∙ c.in-Some.is)).0

pub new-requires-clause-inside : goal.new-requires-clause-inside
new-requires-clause-inside c =
    let short = found_short c.args.grid.now c.args.lights.now c.in-Some.light _ c.requires c.well_formed-2.ensures (sym c.light_named.ensures ∙ c.in-Some.is) in
    (short.1, short.2)
