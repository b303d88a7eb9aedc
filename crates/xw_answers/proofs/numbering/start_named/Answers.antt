use Rattle.std.proofs.Common.{sym, ◌∙◌}
use Rattle.xw_answers.specs.Numbering.{name_of_light}
use Rattle.xw_answers.proofs.LightStarts.{begins_here, begins_at_no_cell, begins_elsewhere}
use Rattle.xw_answers.proofs.numbering.start_named.Goals as goal

pub returns-in_err-start-clause-start : goal.returns-in_err-start-clause-start
returns-in_err-start-clause-start c = c.from_residual.ensures ∙ begins_at_no_cell c.args.grid.now (name_of_light c.args.named) c.in_err-start.ensures.none

pub returns-then-begins-clause-start : goal.returns-then-begins-clause-start
returns-then-begins-clause-start c = begins_here c.args.grid.now (name_of_light c.args.named) c.in_ok-start.start (sym c.begins.ensures ∙ c.if-begins.true) c.in_ok-start.ensures.number

pub returns-else-begins-clause-start : goal.returns-else-begins-clause-start
returns-else-begins-clause-start c =
    begins_elsewhere c.args.grid.now (name_of_light c.args.named) c.in_ok-start.start c.in_ok-start.ensures.begins c.in_ok-start.ensures.number (sym c.begins.ensures ∙ c.if-begins.false)
