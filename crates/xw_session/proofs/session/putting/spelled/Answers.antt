use Rattle.std.proofs.Common.{◌++◌, ap, ◌∙◌}
use Rattle.xw_session.proofs.session.putting.spelled.Goals as goal

pub returns-clause-ok : goal.returns-clause-ok
returns-clause-ok c = λ piece e. c.in_ok-append.ensures.ok piece e ∙ ap (λ xs. xs ++ piece) c.new-text.ensures.items
