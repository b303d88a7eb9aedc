use Rattle.std.proofs.Common.{ap}
use Rattle.xw_lines.specs.Cut.{Cut}
use Rattle.xw_lines.proofs.Cuts.{cut-whole, cut-with_lfs}
use Rattle.xw_session_laws.proofs.lines_are_cut_at_each_lf.Goals as goal

pub returns-clause-whole : goal.returns-clause-whole
returns-clause-whole c = λ text. (cut-whole text).0

pub returns-clause-lines : goal.returns-clause-lines
returns-clause-lines c = λ text. (cut-whole text).1

pub returns-clause-piece : goal.returns-clause-piece
returns-clause-piece c = λ text. (cut-whole text).2

pub returns-clause-only : goal.returns-clause-only
returns-clause-only c = λ lines rest hs h. ap (λ (c : Cut). c.ended) (cut-with_lfs lines rest hs h)

pub returns-clause-only_piece : goal.returns-clause-only_piece
returns-clause-only_piece c = λ lines rest hs h. ap (λ (c : Cut). c.rest) (cut-with_lfs lines rest hs h)
