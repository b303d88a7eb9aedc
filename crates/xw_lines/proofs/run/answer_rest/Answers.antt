use Rattle.xw_lines.proofs.Broken.{broken-finish}
use Rattle.xw_lines.proofs.run.answer_rest.Goals as goal

pub returns-in-Ok : goal.returns-in-Ok
returns-in-Ok g c = λ start begun text p.
    let said = c.in-Ok.ensures.ok start begun text p in (said.0, said.1, said.2, c.in-Ok.ensures.quiet)

pub returns-in-Err : goal.returns-in-Err
returns-in-Err g c =
    rw c.broken.ensures
    (λ start begun text p. broken-finish g.S.LineHandler.answers g.S.LineHandler.stops start _ text begun _ _ _ c.in-Err.fault c.in-Err.ensures.failed (c.in-Err.ensures.err start begun text p))
