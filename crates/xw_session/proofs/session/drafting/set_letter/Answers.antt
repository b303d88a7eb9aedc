use Rattle.std.proofs.Common.{Some}
use Rattle.xw_grid.proofs.ChangeLemmas.{letters_keep_shape}
use Rattle.xw_session.proofs.session.drafting.set_letter.Goals as goal

pub returns-clause-lights : goal.returns-clause-lights
returns-clause-lights c = (letters_keep_shape c.args.grid.now c.set.new.self c.args.cell (Some c.args.letter) c.well_formed-2.ensures c.in_ok-set.ensures.ok).lights
