use Rattle.std.proofs.Common.{sym, ◌∙◌}
use Rattle.xw_grid.proofs.LookupLemmas.{lights_are_good, number_across, number_down}
use Rattle.xw_grid.proofs.lights.Lights.number.Goals as goal

pub returns-in-Some : goal.returns-in-Some
returns-in-Some c =
    let lights = c.args.self.now in
    let good = lights_are_good c.self.invariant.grid lights (sym c.self.view_is ∙ c.self.invariant.whole) in
    number_across lights good c.args.cell c.across_at.result c.in-Some.number c.across_at.ensures (sym c.number_by.ensures ∙ c.in-Some.is)

pub returns-in-None : goal.returns-in-None
returns-in-None c =
    let lights = c.args.self.now in
    let good = lights_are_good c.self.invariant.grid lights (sym c.self.view_is ∙ c.self.invariant.whole) in
    number_down lights good c.args.cell c.across_at.result c.down_at.result c.number_by-in-None.result c.across_at.ensures (sym c.number_by.ensures ∙ c.in-None.is) c.down_at.ensures c.number_by-in-None.ensures
