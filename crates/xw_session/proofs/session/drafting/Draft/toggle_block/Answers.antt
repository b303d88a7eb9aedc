use Rattle.std.proofs.Common.{sym, subst}
use Rattle.xw_grid.specs.Grid.{Grid}
use Rattle.xw_answers.specs.Numbering.{AreNumbered}
use Rattle.xw_session.proofs.session.drafting.Draft.toggle_block.Goals as goal

pub invariant_of-self : goal.invariant_of-self
invariant_of-self c = (tt, subst (λ (grid : Grid). AreNumbered grid c.forget_block.new.known.items) (sym c.in_err-toggle_block.ensures.same) c.forget_block.ensures.same)

pub invariant_of-self-2 : goal.invariant_of-self-2
invariant_of-self-2 c = (tt, c.forget_block.ensures.made c.toggle_block.new.self c.in_ok-toggle_block.ensures.ok)
