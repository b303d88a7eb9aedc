use Rattle.std.proofs.Common.{◌∙◌}
use Rattle.std.specs.Prelude.{Some, None}
use Rattle.xw_grid.proofs.ClueLemmas.{text_found}
use Rattle.xw_grid.proofs.clues.text_of.Goals as goal

pub returns-in-Some : goal.returns-in-Some
returns-in-Some c = c.deref.ensures.value ∙ text_found c.args.texts.now c.args.cell (Some c.in-Some.text.now) c.in-Some.ensures.value

pub returns-in-None : goal.returns-in-None
returns-in-None c = text_found c.args.texts.now c.args.cell None c.in-None.ensures.value
