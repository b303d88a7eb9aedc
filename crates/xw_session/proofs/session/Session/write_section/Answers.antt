use Rattle.std.proofs.Common.{rules}
use Rattle.xw_session.proofs.session.Session.write_section.Goals as goal

pub returns-in-Symmetry : goal.returns-in-Symmetry
returns-in-Symmetry g c = search rules
