use Rattle.std.proofs.Common.{◌||◌, length, sym, ap, ◌∙◌}
use Rattle.std.proofs.lemmas.Bool.{or_left}
use Rattle.xw_feas.specs.Board.{light_at}
use Rattle.xw_net.specs.Begin.{is_long}
use Rattle.xw_net.proofs.base.is_read.Goals as goal

pub returns-then-contains : goal.returns-then-contains
returns-then-contains c = c.if-contains.true ∙ sym (or_left _ (is_long c.args.word (length (light_at c.args.board.now c.args.light))) (sym c.contains.ensures ∙ c.if-contains.true))

pub returns-else-contains : goal.returns-else-contains
returns-else-contains c =
    c.is_long.ensures
    ∙ sym (ap (λ b. b || is_long c.args.word (length (light_at c.args.board.now c.args.light))) (sym c.contains.ensures ∙ c.if-contains.false))
