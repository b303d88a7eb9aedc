use Rattle.std.proofs.Common.{None}
use Rattle.xw_grid.proofs.ChangeLemmas.{letters_keep_shape}
use Rattle.xw_session.proofs.session.drafting.clear_cell.Goals as goal

pub returns-clause-lights : goal.returns-clause-lights
returns-clause-lights c = (letters_keep_shape c.args.grid.now c.clear.new.self c.args.cell (None) c.well_formed-2.ensures c.in_ok-clear.ensures.ok).lights
